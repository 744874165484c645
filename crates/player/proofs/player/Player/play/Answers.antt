use Rattle.std.proofs.Common.{arith}
use Rattle.player.specs.Output.{stereo}
use Rattle.player.specs.Player.{frames_of, memory_of, position_of, marks_of, pool_capacity}
use Rattle.player.proofs.Keeping.{keeps_none, keeps_both}
use Rattle.player.proofs.OwnMarking.{marks_none, marks_more}
use Rattle.player.proofs.Putting.{played_none, played_more}
use Rattle.player.proofs.player.Player.play.Goals as goal

pub pieces-init : goal.pieces-init
pieces-init g c = let player = c.args.self.now in record {
  few = omega arith;
  put = played_none stereo (frames_of g.C.Chip.meaning g.C.Chip.saving player) (position_of player) c.args.out.now c.position.ensures.run;
  there = omega arith;
  marks = marks_none (pool_capacity player) (memory_of g.C.Chip.meaning g.C.Chip.saving player) player.spacing (position_of player) (marks_of player);
  made = omega (arith, c.position.ensures.counted);
  tune = keeps_none g.C.Chip.meaning g.C.Chip.saving player;
}

pub pieces-preserved : goal.pieces-preserved
pieces-preserved g c =
    let first = c.args.self.now in let next = c.pieces.self in
    let more = c.play_some-done.result in
    record {
      few = omega (arith, c.play_some-done.ensures.within, c.pieces.invariant.few);
      put = played_more stereo (frames_of g.C.Chip.meaning g.C.Chip.saving first) (frames_of g.C.Chip.meaning g.C.Chip.saving next) (position_of first) (position_of next) c.pieces.done more c.pieces.out c.args.out.now c.play_some-done.new.out
          c.position.ensures.run c.pieces.invariant.tune.frames c.pieces.invariant.there c.pieces.invariant.put c.play_some-done.ensures.frames;
      there = omega (arith, c.play_some-done.ensures.position, c.pieces.invariant.there);
      marks = marks_more g.C.Chip.meaning g.C.Chip.saving first next c.pieces.done more _ c.pieces.invariant.tune c.pieces.invariant.there c.pieces.invariant.marks c.play_some-done.ensures.marks;
      made = omega (arith, c.play_some-done.ensures.made, c.pieces.invariant.made);
      tune = keeps_both g.C.Chip.meaning g.C.Chip.saving first next c.play_some-done.new.self c.pieces.invariant.tune c.play_some-done.ensures.tune;
    }
