-- The outputs and the report that a plan makes.
use Rattle.std.specs.Prelude.{ℕ, List, [], ◌∷◌, Option, Some, None}
use Rattle.std.specs.Option.{option_map}
use Rattle.snd_host.specs.Host.{Output}
use Rattle.command_runner.specs.Conduct.{Delivery}
use Rattle.command_runner.specs.Stream.{Both, stream_outputs}
use Rattle.command_runner.specs.declared.delivery.Plan.{Plan}
use Rattle.command_runner.specs.declared.delivery.PlannedOutput.{PlannedOutput}
use Rattle.command_runner.specs.declared.delivery.StreamedPlan.{StreamedPlan}

abbrev pub planned_outputs : Option PlannedOutput → List Output
planned_outputs None = []
planned_outputs (Some output) = record { name = output.name.now; bytes = output.bytes.items } ∷ []

-- what a plan in memory makes
abbrev pub plan_makes : Plan → Delivery
plan_makes plan = record { outputs = planned_outputs plan.output; report = plan.report.items }

-- what a plan in pieces makes: the head is written to the sound file alone
abbrev pub stream_makes : {P : Type 0} → (to_come : P → Both) → (report : P → List ℕ) → StreamedPlan P → Delivery
stream_makes to_come report plan = record {
  outputs = stream_outputs plan.wave.now (option_map (λ name. name.now) plan.trace) plan.head.items (to_come plan.source);
  report = report plan.source;
}
