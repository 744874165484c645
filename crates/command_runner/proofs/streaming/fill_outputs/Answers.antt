use Rattle.std.proofs.Common.{◌∙◌, sym, Bool, List, subst}
use Rattle.std.specs.Prelude.{option_map}
use Rattle.std.proofs.lemmas.Result.{err_from_is_err_and}
use Rattle.command_runner.specs.Stream.{AreOpen}
use Rattle.command_runner.proofs.Flags.{created_open, woven_keeps}
use Rattle.command_runner.proofs.OutputsMade.{apart, not_begun, head_failed, pieces_cut, all_made}
use Rattle.command_runner.proofs.streaming.fill_outputs.Goals as goal

pub put-requires : goal.put-requires
put-requires g c = created_open c.args.wave.now (option_map (λ name. name.now) c.args.trace) c.in_ok-targets.targets _ _ _ c.in_ok-targets.ensures.numbers c.in_ok-targets.ensures.calls

pub pump-requires : goal.pump-requires
pump-requires g c =
    let opened = created_open c.args.wave.now (option_map (λ name. name.now) c.args.trace) c.in_ok-targets.targets _ _ _ c.in_ok-targets.ensures.numbers c.in_ok-targets.ensures.calls in
    subst (λ (l : List Bool). AreOpen l c.in_ok-targets.targets) (sym (woven_keeps _ _ _ _ c.in_ok-put.ensures)) opened

pub end-requires : goal.end-requires
end-requires g c =
    let opened = created_open c.args.wave.now (option_map (λ name. name.now) c.args.trace) c.in_ok-targets.targets _ _ _ c.in_ok-targets.ensures.numbers c.in_ok-targets.ensures.calls in
    subst (λ (l : List Bool). AreOpen l c.in_ok-targets.targets) (sym (woven_keeps _ _ _ _ c.in_ok-pump.ensures.calls ∙ woven_keeps _ _ _ _ c.in_ok-put.ensures)) opened

pub returns-in_err-targets-clause-calls : goal.returns-in_err-targets-clause-calls
returns-in_err-targets-clause-calls g c =
    let p = err_from_is_err_and c.from_residual.result c.from_residual.ensures.1 in
    rw (p.1) (not_begun _ c.args.wave.now (option_map (λ name. name.now) c.args.trace) c.args.head.now _ _ _ _ _ _ c.in_err-targets.ensures.calls)

pub returns-in_err-put-clause-calls : goal.returns-in_err-put-clause-calls
returns-in_err-put-clause-calls g c =
    let p = err_from_is_err_and c.from_residual-in_err-put.result c.from_residual-in_err-put.ensures.1 in
    let are = c.in_ok-targets.ensures.numbers in
    let opened = created_open c.args.wave.now (option_map (λ name. name.now) c.args.trace) c.in_ok-targets.targets _ _ _ are c.in_ok-targets.ensures.calls in
    rw (p.1) (head_failed _ c.args.wave.now (option_map (λ name. name.now) c.args.trace) c.args.head.now _ _ c.in_ok-targets.targets.trace c.in_ok-targets.targets.wave.0 are.wave are.trace_number
    (apart _ c.in_ok-targets.targets.wave.0 c.in_ok-targets.targets.trace opened.trace_open) _ _ _ _ _ _ c.in_ok-targets.ensures.calls c.in_err-put.ensures)

pub returns-in_err-pump-clause-calls : goal.returns-in_err-pump-clause-calls
returns-in_err-pump-clause-calls g c =
    let p = err_from_is_err_and c.from_residual-in_err-pump.result c.from_residual-in_err-pump.ensures.1 in
    let are = c.in_ok-targets.ensures.numbers in
    let opened = created_open c.args.wave.now (option_map (λ name. name.now) c.args.trace) c.in_ok-targets.targets _ _ _ are c.in_ok-targets.ensures.calls in
    rw (p.1) (pieces_cut _ c.args.wave.now (option_map (λ name. name.now) c.args.trace) c.args.head.now _ _ c.in_ok-targets.targets.trace c.in_ok-targets.targets.wave.0 are.wave are.trace_number
    (apart _ c.in_ok-targets.targets.wave.0 c.in_ok-targets.targets.trace opened.trace_open) _ _ _ _ _ _ _ _ c.in_ok-targets.ensures.calls c.in_ok-put.ensures c.in_err-pump.ensures.calls)

pub returns-clause-calls : goal.returns-clause-calls
returns-clause-calls g c =
    let are = c.in_ok-targets.ensures.numbers in
    let opened = created_open c.args.wave.now (option_map (λ name. name.now) c.args.trace) c.in_ok-targets.targets _ _ _ are c.in_ok-targets.ensures.calls in
    all_made _ c.args.wave.now (option_map (λ name. name.now) c.args.trace) c.args.head.now _ _ c.in_ok-targets.targets.trace c.in_ok-targets.targets.wave.0 are.wave are.trace_number
    (apart _ c.in_ok-targets.targets.wave.0 c.in_ok-targets.targets.trace opened.trace_open) _ _ _ _ _ _ _ _ c.end.result c.in_ok-targets.ensures.calls c.in_ok-put.ensures c.in_ok-pump.ensures.calls c.end.ensures
