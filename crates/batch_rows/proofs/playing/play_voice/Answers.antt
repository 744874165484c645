use Rattle.batch_rows.proofs.PlayedLane.{played_lane}
use Rattle.batch_rows.proofs.playing.play_voice.Goals as goal

pub returns-clause-played : goal.returns-clause-played
returns-clause-played c k s are =
    let played = rw (c.of_voice-own.ensures.reads, ← are.registers, ← are.table) at (c.play.ensures.played k (rw c.of_voice-own.ensures.reads are.clock)) in
    let last = rw (c.of_voice-own.ensures.reads, ← are.registers, ← are.table) at (c.play.ensures.last k (rw c.of_voice-own.ensures.reads are.clock)) in
    played_lane k c.args.n c.args.v s c.args.reads.now.memory.now c.args.reads.now.rows.now c.args.previous.now c.args.voice.now are.rows
    c.args.made.now.ends record { voice = c.play.new.voice; row = c.play.new.made.outs; ends = c.play.new.made.ends; last = c.play.result } c.requires.some played last
