use Rattle.std.proofs.lemmas.Result.{err_from_is_err_and}
use Rattle.command_runner.proofs.OutputsMade.{first_not_created, second_not_created, one_created, both_created, second_number}
use Rattle.command_runner.proofs.streaming.begin.Goals as goal

pub returns-in_ok-trace-in-Some-clause-numbers : goal.returns-in_ok-trace-in-Some-clause-numbers
returns-in_ok-trace-in-Some-clause-numbers g c =
    let o = c.in_ok-wave.ensures in
    let e = c.in_ok-trace-in-Some.ensures in
    rw (c.in-Some.is) (record { wave = o.number; trace_number = second_number c.args.wave.now _ _ (g.H.Host.state c.args.host.now) (g.H.Host.state c.create.new.self) o.made e.number })

pub returns-in_err-wave-clause-calls : goal.returns-in_err-wave-clause-calls
returns-in_err-wave-clause-calls g c =
    let p = err_from_is_err_and c.from_residual.result c.from_residual.ensures.1 in
    rw (p.1) (first_not_created c.args.wave.now _ _ _ _ _ c.in_err-wave.ensures.made)

pub returns-in_err-trace-in-Some-clause-calls : goal.returns-in_err-trace-in-Some-clause-calls
returns-in_err-trace-in-Some-clause-calls g c =
    let p = err_from_is_err_and c.from_residual-in_err-trace-in-Some.result c.from_residual-in_err-trace-in-Some.ensures.1 in
    rw (p.1, c.in-Some.is) (second_not_created c.args.wave.now c.in-Some.name.now _ _ _ (g.H.Host.state c.create.new.self) _ _ c.in_ok-wave.ensures.number c.in_ok-wave.ensures.made c.in_err-trace-in-Some.ensures.made)

pub returns-in_ok-trace-in-Some-clause-calls : goal.returns-in_ok-trace-in-Some-clause-calls
returns-in_ok-trace-in-Some-clause-calls g c =
    let o = c.in_ok-wave.ensures in
    let e = c.in_ok-trace-in-Some.ensures in
    rw (c.in-Some.is) (both_created c.args.wave.now c.in-Some.name.now _ _ _ (g.H.Host.state c.create.new.self) _ _ o.number e.number o.made e.made)

pub returns-in-None-clause-calls : goal.returns-in-None-clause-calls
returns-in-None-clause-calls g c = rw (c.in-None.is) (one_created c.args.wave.now _ _ _ _ _ c.in_ok-wave.ensures.number c.in_ok-wave.ensures.made)
