use Rattle.std.proofs.Common.{sym, subst}
use Rattle.std.specs.Prelude.{Option, Some}
use Rattle.std.specs.Option.{option_map}
use Rattle.std.proofs.lemmas.Result.{err_from_is_err_and}
use Rattle.snd_host.specs.Follows.{Follows}
use Rattle.snd_host.specs.History.{ended_of}
use Rattle.snd_host.specs.declared.host.OutFile.{OutFile}
use Rattle.command_runner.specs.OutputCalls.{AreWoven, both}
use Rattle.command_runner.specs.Stream.{IsOpenAfter}
use Rattle.command_runner.proofs.Flags.{written_keeps, trace_writable}
use Rattle.command_runner.proofs.OutputsMade.{apart}
use Rattle.command_runner.proofs.Woven.{put_failed, put_both, woven_alone}
use Rattle.command_runner.proofs.Sequences.{follows_as}
use Rattle.command_runner.proofs.streaming.put.Goals as goal

pub write_all-requires-in-Some : goal.write_all-requires-in-Some
write_all-requires-in-Some g c = trace_writable c.args.targets c.in-Some.file _ _ c.requires c.in-Some.is (written_keeps _ _ _ _ _ c.in_ok-write_all.ensures)

pub returns-in_err-write_all : goal.returns-in_err-write_all
returns-in_err-write_all g c =
    let p = err_from_is_err_and c.from_residual.result c.from_residual.ensures.1 in
    rw (p.1) (put_failed c.args.targets.wave.0 _ c.args.wave.now c.args.trace.now _ _ _ _ (apart _ c.args.targets.wave.0 c.args.targets.trace c.requires.trace_open) c.in_err-write_all.ensures)

pub returns-in-Some : goal.returns-in-Some
returns-in-Some g c =
    let ended = ended_of (g.H.Host.state c.args.host.now).calls in
    let away = apart ended c.args.targets.wave.0 (Some c.in-Some.file) (subst (IsOpenAfter ended c.args.targets.wave.0) c.in-Some.is c.requires.trace_open) in
    subst (λ (t : Option OutFile). Follows (AreWoven (both c.args.targets.wave.0 (option_map (λ file. file.0) t) c.args.wave.now c.args.trace.now)) (g.H.Host.state c.args.host.now) (g.H.Host.state c.write_all-in-Some.new.host) c.write_all-in-Some.result) (sym c.in-Some.is)
    (put_both c.args.targets.wave.0 c.in-Some.file.0 c.args.wave.now c.args.trace.now _ _ _ away _ c.write_all-in-Some.result c.in_ok-write_all.ensures c.write_all-in-Some.ensures)

pub returns-in-None : goal.returns-in-None
returns-in-None g c =
    rw c.in-None.is (follows_as _ _ _ _ _ (woven_alone c.args.targets.wave.0 c.args.wave.now c.args.trace.now) c.in_ok-write_all.ensures)
