use Rattle.std.proofs.Common.{arith}
use Rattle.render_files.proofs.Waves.{before_the_fade}
use Rattle.render_files.proofs.pieces.put_faded_frames.Goals as goal

pub returns-then-at-frames : goal.returns-then-at-frames
returns-then-at-frames c = rw (before_the_fade c.args.frames.now c.args.at c.args.samples c.args.fade (omega arith)) c.put_frames.ensures
