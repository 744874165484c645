use Rattle.std.proofs.Common.{rules, ◌≡◌, ◌∙◌, sym, ap, subst, List, [], ◌∷◌, ◌++◌, ◌+◌, length, map, arith, append_assoc}
use Rattle.std.proofs.lemmas.Grind.{common_steps}
use Rattle.std.specs.Vec.Iter.{into_iter_items}
use Rattle.std.proofs.lemmas.List.{map-append, length-map}
use Rattle.std.proofs.lemmas.Result.{err_from_is_err_and}
use Rattle.snd_host.specs.History.{ended_of}
use Rattle.snd_host.specs.Host.{Output}
use Rattle.snd_host.proofs.CallsInOrder.{since_none, since_then}
use Rattle.command_runner.specs.Listed.{listed_output}
use Rattle.command_runner.specs.OutputCalls.{MakesInTurn}
use Rattle.command_runner.proofs.Flags.{next_after}
use Rattle.command_runner.proofs.OutputsMade.{in_turn_more, in_turn_one, in_turn_stopped}
use Rattle.command_runner.proofs.lists.fill_all.Goals as goal

pub loop-output-init : goal.loop-output-init
loop-output-init g c = record { split = search rules; count = search rules; calls = []; since = since_none _; makes = search rules }

pub loop-output-preserved : goal.loop-output-preserved
loop-output-preserved g c =
    let at = c.loop-output in
    let output = c.in-Some.output in
    let makes = listed_output g.P.Pieces.to_come in
    let first = length (ended_of (g.H.Host.state c.args.host.now).calls) + 2 in
    let next = length (ended_of (g.H.Host.state at.host).calls) + 2 in
    let one = c.in_ok-fill_one.ensures in
    let steps : into_iter_items at.output-iterator ≡ output ∷ into_iter_items c.next.new.self = c.in-Some.ensures.steps.0 in
    record {
      split = append_assoc at.yielded (output ∷ []) _ ∙ rw (← steps) at.invariant.split;
      count = let was = at.invariant.count in
          let gone = c.in-Some.ensures.steps.1 in
          let short = ap length steps in
          omega arith;
      calls = at.invariant.calls ++ one.calls;
      since = since_then at.invariant.calls one.calls (g.H.Host.state c.args.host.now) (g.H.Host.state at.host) (g.H.Host.state c.fill_one.new.host) at.invariant.since one.since;
      makes = subst (λ (l : List Output). MakesInTurn first l (at.invariant.calls ++ one.calls)) (sym (map-append makes at.yielded (output ∷ [])))
          (in_turn_more first next (map makes at.yielded) (makes output ∷ []) at.invariant.calls one.calls (next_after _ _ at.invariant.calls _ _ at.invariant.since at.invariant.makes) at.invariant.makes
          (in_turn_one next (makes output) one.calls one.does));
    }

pub returns-in_err-fill_one : goal.returns-in_err-fill_one
returns-in_err-fill_one g c =
    let at = c.loop-output in
    let output = c.in-Some.output in
    let makes = listed_output g.P.Pieces.to_come in
    let rest = into_iter_items c.next.new.self in
    let steps : into_iter_items at.output-iterator ≡ output ∷ rest = c.in-Some.ensures.steps.0 in
    let all : map makes at.yielded ++ (makes output ∷ [] ++ map makes rest) ≡ map makes c.args.outputs.items =
    sym (map-append makes at.yielded (output ∷ rest)) ∙ ap (λ l. map makes (at.yielded ++ l)) (sym steps) ∙ ap (map makes) at.invariant.split in
    let p = err_from_is_err_and c.from_residual.result c.from_residual.ensures.1 in
    rw (p.1) (in_turn_stopped _ (length (ended_of (g.H.Host.state at.host).calls) + 2) (map makes at.yielded) (makes output) (map makes rest) _ (g.H.Host.state c.args.host.now) (g.H.Host.state at.host) (g.H.Host.state c.fill_one.new.host) at.invariant.calls _ _ all
    (next_after _ _ at.invariant.calls _ _ at.invariant.since at.invariant.makes) at.invariant.since at.invariant.makes c.in_err-fill_one.ensures)

pub returns : goal.returns
returns g c =
    let at = c.loop-output in
    let makes = listed_output g.P.Pieces.to_come in
    let all : at.yielded ≡ c.args.outputs.items = grind (arith, common_steps) in
    record { calls = at.invariant.calls; since = at.invariant.since; does = subst (λ l. MakesInTurn (length (ended_of (g.H.Host.state c.args.host.now).calls) + 2) (map makes l) at.invariant.calls) all at.invariant.makes }

pub fill_one-requires : goal.fill_one-requires
fill_one-requires g c =
    let at = c.loop-output in
    let makes = listed_output g.P.Pieces.to_come in
    let so_far = next_after _ _ at.invariant.calls (g.H.Host.state c.args.host.now) (g.H.Host.state at.host) at.invariant.since at.invariant.makes in
    let many = length-map at.yielded makes in
    let all = ap length at.invariant.split in
    let steps = ap length (c.in-Some.ensures.steps.0) in
    grind (arith, common_steps)
