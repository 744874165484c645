use Rattle.std.proofs.Common.{rules, ◌≡◌, ◌++◌, List, ℕ, Result, Ok, Err, subst}
use Rattle.std.specs.Option.{option_map}
use Rattle.snd_host.specs.Host.{HostState}
use Rattle.snd_host.specs.Follows.{Follows}
use Rattle.snd_host.specs.declared.host.Failed.{Failed}
use Rattle.command_runner.specs.OutputCalls.{at_once, DeliversAs}
use Rattle.command_runner.specs.Stream.{Both, pair}
use Rattle.command_runner.specs.declared.delivery.StreamedPlan.{StreamedPlan}
use Rattle.command_runner.specs.Plan.{stream_makes}
use Rattle.command_runner.proofs.Attempting.{carried_out}
use Rattle.command_runner.proofs.delivery.carry_stream.Goals as goal

-- the bytes that were passed are those of the plan
of_plan : {P : Type 0} (to_come : P → Both) (report : P → List ℕ) (plan : StreamedPlan P) (head : List ℕ) (n : ℕ) (x y : HostState) (r : Result (Unit {0}) Failed) → head ≡ plan.head.items →
    Follows (DeliversAs at_once n (pair plan.wave.now (option_map (λ name. name.now) plan.trace) (head ++ (to_come plan.source).wave) (to_come plan.source).trace) (report plan.source)) x y r →
    Follows (DeliversAs at_once n (stream_makes to_come report plan).outputs (stream_makes to_come report plan).report) x y r
of_plan to_come report plan head n x y r heads d =
    subst (λ (l : List ℕ). Follows (DeliversAs at_once n (pair plan.wave.now (option_map (λ name. name.now) plan.trace) (l ++ (to_come plan.source).wave) (to_come plan.source).trace) (report plan.source)) x y r) heads d

pub returns-in-Ok-stream : goal.returns-in-Ok-stream
returns-in-Ok-stream g c =
    let head : c.as_slice.result.now ≡ c.in-Ok.plan.head.items = search rules in
    rw c.in-Ok.is (carried_out (stream_makes g.P.Pieces.to_come g.P.Pieces.report) c.in-Ok.plan _ _ (Ok (tt {0})) (of_plan g.P.Pieces.to_come g.P.Pieces.report c.in-Ok.plan _ _ _ _ (Ok (tt {0})) head c.in-Ok-stream.ensures))

pub returns-in-Ok : goal.returns-in-Ok
returns-in-Ok g c =
    let head : c.as_slice.result.now ≡ c.in-Ok.plan.head.items = search rules in
    rw c.in-Ok.is (carried_out (stream_makes g.P.Pieces.to_come g.P.Pieces.report) c.in-Ok.plan _ _ (Err c.in-Err-stream.field-0) (of_plan g.P.Pieces.to_come g.P.Pieces.report c.in-Ok.plan _ _ _ _ (Err c.in-Err-stream.field-0) head c.in-Err-stream.ensures))
