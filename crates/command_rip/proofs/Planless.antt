-- Where there is no plan.
use Rattle.std.proofs.Common.{inr, refl, Some, Err}
use Rattle.snd_host.specs.Host.{HostState}
use Rattle.command_runner.specs.Answer.{Answer}
use Rattle.command_runner.specs.Conduct.{Delivery, Plans, CarriesOut}
use Rattle.command_runner.specs.OutputCalls.{in_turn}
use Rattle.command_runner.specs.declared.refusals.Refusal.{Refusal}
use Rattle.command_runner.specs.declared.refusals.Refusal.TheVariants.{OutOfMemory}

-- nothing is carried out
pub not_carried : {P C : Type 0} {makes : P → Delivery} (why : Refusal C) (x : HostState) → CarriesOut in_turn makes (Err why) x x (Some why)
not_carried why x = record { ok = tt; err = (refl, refl) }

-- memory was wanting
pub plans_nothing : {P C : Type 0} {makes : P → Delivery} (answer : Answer C) → Plans makes answer (Err OutOfMemory)
plans_nothing answer = record {
  ok = tt;
  err = inr refl;
  no_usage = λ wrong. absurd (cc);
  no_read = λ wrong. absurd (cc);
  no_write = λ wrong. absurd (cc);
}
