use Rattle.std.proofs.Common.{rules, ◌≡◌, to_z, of_z}
use Rattle.std.specs.Int.{w16}
use Rattle.num_fix.specs.SignedWords.{number_at}
use Rattle.voice_unit.specs.Batch.{lane_input, lane_inputs, lane_of}
use Rattle.voice_batch.proofs.Played.{last_answer}
use Rattle.voice_batch.proofs.playing.span_answer.Goals as goal

pub returns : goal.returns
unfolding lane_input
returns c k before begun played lower level_is =
    let place : c.from-place.result ≡ c.args.j = c.from-place.ensures in
    let whole : to_z w16 (of_z w16 (number_at c.args.previous.now c.args.j)) ≡ number_at c.args.previous.now c.args.j = search rules in
    let input : c.input-input.result ≡ lane_inputs c.args.reads.now.seen c.args.reads.now.rows.now c.args.previous.now c.args.j = rw whole at (rw place at c.input-input.ensures.value) in
    let out : to_z w16 (of_z w16 (number_at c.args.made.now.outs c.args.j)) ≡ number_at c.args.made.now.outs c.args.j = search rules in
    rw (c.high_byte.ensures, c.block.ensures, c.is_keyed.ensures, input, place, out) (last_answer
    (lane_of c.args.reads.now c.args.previous.now begun k) c.args.reads.now.seen.voice c.args.j before c.args.made.now.ends
    c.args.made.now.outs c.args.voice.now c.args.level c.is_marked.result
    played level_is lower c.is_marked.ensures.unmarked c.is_marked.ensures.marked)
