use Rattle.std.proofs.Common.{rules, ◌≡◌, true}
use Rattle.batch_rows.specs.Rows.{inputs}
use Rattle.batch_rows.proofs.AllSent.{all_sent_batch}
use Rattle.batch_rows.proofs.playing.play_voices.Goals as goal

pub returns-clause-played : goal.returns-clause-played
returns-clause-played c k s are =
    let all : c.are_all_sent.result ≡ true = search rules in
    let played = rw c.all_unsent-heard.ensures at (c.play_each-2.ensures.played k s are) in
    rw c.send_main.ensures (all_sent_batch (inputs k s c.args.reads.now.memory.now) c.args.n c.args.volumes.now c.args.voices.now _ _ _ c.play_each-2.new.made.sums
    (c.are_all_sent.ensures all) played)
