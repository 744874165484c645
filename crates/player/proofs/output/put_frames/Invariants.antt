use Rattle.std.proofs.Common.{◌≡◌, ◌+◌, ◌++◌, take, drop, map}
use Rattle.player.specs.Output.{stereo}
use Rattle.player.proofs.output.put_frames.Given as goal

-- so many are put, and the others are as they were
abbrev pub invariant-loop-place : goal.invariant-loop-place
invariant-loop-place l = record {
  put : take (l.from + l.place) l.out ≡ take l.from l.fn.out ++ map stereo (take l.place l.frames);
  rest : drop (l.from + l.place) l.out ≡ drop (l.from + l.place) l.fn.out;
}
