use Rattle.std.specs.Prelude.{◌≡◌, ◌++◌, List, ℕ}
use Rattle.std.specs.Option.{option_map}
use Rattle.snd_host.specs.Calls.{Call}
use Rattle.snd_host.specs.Follows.{Since}
use Rattle.command_runner.specs.OutputCalls.{AreWoven, both}
use Rattle.command_runner.proofs.streaming.pump.Given as goal

-- so much was written of what is to be written, and this is left; the report is the same
abbrev pub invariant-pieces : goal.invariant-pieces
invariant-pieces g l = let all = g.P.Pieces.to_come l.fn.source in let left = g.P.Pieces.to_come l.source in record {
  report : g.P.Pieces.report l.source ≡ g.P.Pieces.report l.fn.source;
  calls : List Call;
  xs : List ℕ;
  ys : List ℕ;
  since : Since calls (g.H.Host.state l.fn.host) (g.H.Host.state l.host);
  woven : AreWoven (both l.targets.wave.0 (option_map (λ file. file.0) l.targets.trace) xs ys) calls;
  wave : xs ++ left.wave ≡ all.wave;
  trace : ys ++ left.trace ≡ all.trace;
}

abbrev pub decreases-pieces : goal.decreases-pieces
decreases-pieces g l = g.P.Pieces.work l.source
