use Rattle.std.proofs.Common.{◌≡◌, ◌+◌, drop, fold}
use Rattle.command_check.specs.Check.{sums_with, AreWithin}
use Rattle.command_check.proofs.sums.sums_with_all.Given as goal

-- the sums so far, and the frames still to be looked at
abbrev pub invariant-loop-frame : goal.invariant-loop-frame
invariant-loop-frame l = record {
  here : l.place ≡ l.before + l.frame-index;
  sums : fold sums_with l.sums (drop l.frame-index l.frames) ≡ fold sums_with l.fn.sums l.frames;
  within : AreWithin l.place l.sums;
}
