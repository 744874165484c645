use Rattle.std.proofs.Common.{◌≡◌, ◌≤◌, drop}
use Rattle.num_fix.specs.Limits.{max_frames}
use Rattle.cut_text.specs.Playing.{played_frames}
use Rattle.cut_text.proofs.script.ScriptLines.samples.Given as goal

-- what the lines that are left add to those that were looked at
abbrev pub invariant-loop-line : goal.invariant-loop-line
invariant-loop-line l = record {
  position : l.position ≤ max_frames;
  few : l.frames ≤ max_frames;
  all : played_frames l.position l.frames (drop l.line-index l.self) ≡ played_frames 0 0 l.self;
}
