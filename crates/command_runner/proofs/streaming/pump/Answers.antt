use Rattle.std.proofs.Common.{[], ◌++◌, ◌∙◌, ap, sym, refl, subst, Bool, List, ℕ, Ok}
use Rattle.std.proofs.lemmas.List.{append_assoc}
use Rattle.std.proofs.lemmas.Result.{err_from_is_err_and}
use Rattle.snd_host.proofs.CallsInOrder.{since_none}
use Rattle.command_runner.specs.Stream.{AreOpen}
use Rattle.command_runner.proofs.Flags.{since_writes}
use Rattle.command_runner.proofs.OutputsMade.{apart}
use Rattle.command_runner.proofs.Woven.{no_writes_to, pumped, pump_failed, pump_done}
use Rattle.command_runner.proofs.streaming.pump.Goals as goal

pub pieces-init : goal.pieces-init
pieces-init g c = record {
  report = refl;
  calls = [];
  xs = [];
  ys = [];
  since = since_none _;
  woven = no_writes_to c.args.targets.wave.0 _;
  wave = refl;
  trace = refl;
}

pub put-requires : goal.put-requires
put-requires g c =
    let so_far = c.pieces.invariant in
    subst (λ (l : List Bool). AreOpen l c.args.targets) (sym (since_writes _ so_far.calls _ _ so_far.since so_far.woven)) c.requires

pub pieces-preserved : goal.pieces-preserved
pieces-preserved g c =
    let more = g.P.Pieces.to_come c.make_next-done.new.self in
    let e = c.make_next-done.ensures in
    let so_far = c.pieces.invariant in
    let wave = ap (λ (l : List ℕ). so_far.xs ++ (l ++ more.wave)) c.wave.ensures ∙ ap (λ (l : List ℕ). so_far.xs ++ l) (sym e.wave) ∙ so_far.wave in
    let trace = ap (λ (l : List ℕ). so_far.ys ++ (l ++ more.trace)) c.trace.ensures ∙ ap (λ (l : List ℕ). so_far.ys ++ l) (sym e.trace) ∙ so_far.trace in
    let made = pumped c.args.targets.wave.0 _ so_far.xs so_far.ys c.wave.result.now c.trace.result.now (g.H.Host.state c.args.host.now) (g.H.Host.state c.pieces.host) (g.H.Host.state c.put.new.host) (tt {0}) (Ok c.in_ok-put.field-0) (record { calls = so_far.calls; since = so_far.since; does = so_far.woven }) c.in_ok-put.ensures in
    record {
      report = e.report ∙ so_far.report;
      calls = made.calls;
      xs = so_far.xs ++ c.wave.result.now;
      ys = so_far.ys ++ c.trace.result.now;
      since = made.since;
      woven = made.does;
      wave = append_assoc so_far.xs c.wave.result.now more.wave ∙ wave;
      trace = append_assoc so_far.ys c.trace.result.now more.trace ∙ trace;
    }

pub returns-in_err-put-clause-calls : goal.returns-in_err-put-clause-calls
returns-in_err-put-clause-calls g c =
    let p = err_from_is_err_and c.from_residual.result c.from_residual.ensures.1 in
    let so_far = c.pieces.invariant in
    let more = g.P.Pieces.to_come c.make_next-done.new.self in
    let e = c.make_next-done.ensures in
    let wave = ap (λ (l : List ℕ). so_far.xs ++ (l ++ more.wave)) c.wave.ensures ∙ ap (λ (l : List ℕ). so_far.xs ++ l) (sym e.wave) ∙ so_far.wave in
    let trace = ap (λ (l : List ℕ). so_far.ys ++ (l ++ more.trace)) c.trace.ensures ∙ ap (λ (l : List ℕ). so_far.ys ++ l) (sym e.trace) ∙ so_far.trace in
    rw (p.1) (pump_failed c.args.targets.wave.0 _ so_far.xs so_far.ys c.wave.result.now c.trace.result.now more.wave more.trace _ _ _ _ _ (tt {0}) _ _ (apart _ c.args.targets.wave.0 c.args.targets.trace c.requires.trace_open) wave trace
    (record { calls = so_far.calls; since = so_far.since; does = so_far.woven }) c.in_err-put.ensures)

pub returns-then-done-clause-calls : goal.returns-then-done-clause-calls
returns-then-done-clause-calls g c =
    let so_far = c.pieces.invariant in
    let more = g.P.Pieces.to_come c.make_next-done.new.self in
    let e = c.make_next-done.ensures in
    let wave = ap (λ (l : List ℕ). so_far.xs ++ (l ++ more.wave)) c.wave.ensures ∙ ap (λ (l : List ℕ). so_far.xs ++ l) (sym e.wave) ∙ so_far.wave in
    let trace = ap (λ (l : List ℕ). so_far.ys ++ (l ++ more.trace)) c.trace.ensures ∙ ap (λ (l : List ℕ). so_far.ys ++ l) (sym e.trace) ∙ so_far.trace in
    pump_done c.args.targets.wave.0 _ so_far.xs so_far.ys c.wave.result.now c.trace.result.now more.wave more.trace _ _ _ _ _ (tt {0}) _ wave trace (e.wave_done c.if-done.true) (e.trace_done c.if-done.true)
    (record { calls = so_far.calls; since = so_far.since; does = so_far.woven }) c.in_ok-put.ensures
