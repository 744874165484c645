use Rattle.std.proofs.Common.{◌≡◌, ◌+◌, ◌-◌, ◌≤◌, ◌++◌, drop, map}
use Rattle.chip_form.specs.Samples.{count_after}
use Rattle.cut_form.specs.Slices.{slice_of}
use Rattle.player.specs.Output.{stereo}
use Rattle.player.specs.Player.{frames_of, position_of, marks_of, marks_played, made_of, KeepsPlayer}
use Rattle.player.proofs.player.Player.play.Given as goal

-- so many frames are played, and stand at the front
abbrev pub invariant-pieces : goal.invariant-pieces
invariant-pieces g l = record {
  few : l.done ≤ l.count;
  put : l.out ≡ map stereo (slice_of (frames_of g.C.Chip.meaning g.C.Chip.saving l.fn.self) (position_of l.fn.self) l.done) ++ drop l.done l.fn.out;
  there : position_of l.self ≡ position_of l.fn.self + l.done;
  marks : marks_of l.self ≡ marks_played g.C.Chip.meaning g.C.Chip.saving l.fn.self l.done;
  made : made_of l.self ≡ count_after (made_of l.fn.self) l.done;
  tune : KeepsPlayer g.C.Chip.meaning g.C.Chip.saving l.fn.self l.self;
}

abbrev pub decreases-pieces : goal.decreases-pieces
decreases-pieces g l = l.count - l.done
