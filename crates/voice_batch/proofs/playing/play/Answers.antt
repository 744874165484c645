use Rattle.std.proofs.Common.{rules, ◌≡◌, ◌<◌, ◌-◌, ◌+◌, ◌^◌, ℕ, slice_index, to_z, of_z, ap, arith}
use Rattle.std.specs.Int.{w16}
use Rattle.num_fix.specs.SignedWords.{number_at}
use Rattle.voice_unit.specs.Batch.{lane_input, lane_inputs, answer_of_step, lane_of}
use Rattle.voice_unit.specs.declared.interface.VoiceOut.{VoiceOut}
use Rattle.voice_batch.proofs.Played.{one_more_played, with_ended-bound}
use Rattle.voice_batch.proofs.playing.play.Goals as goal

pub mark_ended-requires-clause-lower : goal.mark_ended-requires-clause-lower
mark_ended-requires-clause-lower c =
    let last : ℕ = c.args.n - 1 in
    let here : c.play_row-rendered.result.at ≡ last = omega (arith, c.play_row-rendered.ensures.from, c.play_row-rendered.ensures.to, c.if-rendered-n.false, c.requires.some) in
    let same : slice_index c.play_row-rendered.new.made.ends last ≡ slice_index c.args.made.now.ends last = c.play_row-rendered.ensures.others last (omega (arith, here)) in
    rw same (c.requires.lower last (omega (arith, c.requires.some, c.requires.few)))

pub returns-clause-played : goal.returns-clause-played
unfolding lane_input
returns-clause-played c k at =
    let j : ℕ = c.args.n - 1 in
    let all : j + 1 ≡ c.args.n = omega (arith, c.requires.some) in
    let place : c.from-place.result ≡ j = c.from-place.ensures in
    let whole : to_z w16 (of_z w16 (number_at c.args.previous.now j)) ≡ number_at c.args.previous.now j = search rules in
    let input : c.input-input.result ≡ lane_inputs c.args.reads.now.seen c.args.reads.now.rows.now c.args.previous.now j = rw whole at (rw place at c.input-input.ensures.value) in
    let out : to_z w16 (of_z w16 c.play_sample-answer.result.out) ≡ c.play_sample-answer.result.out = search rules in
    let here : c.play_row-rendered.result.at ≡ j = omega (arith, c.play_row-rendered.ensures.from, c.play_row-rendered.ensures.to, c.if-rendered-n.false, c.requires.some) in
    let played = rw here at (c.play_row-rendered.ensures.played k at) in
    let step = rw input at (c.play_sample-answer.ensures k at) in
    rw (← all, place, out, c.mark_ended.ensures) (one_more_played
    (lane_of c.args.reads.now c.args.previous.now c.args.voice.now k) c.args.reads.now.seen.voice j
    c.args.made.now.ends c.play_row-rendered.new.made.ends c.play_row-rendered.new.made.outs c.play_row-rendered.new.voice c.play_sample-answer.new.voice c.play_sample-answer.result.out c.play_sample-answer.result.ended
    played (search rules) (search rules)
    step.voice (ap (λ (answer : VoiceOut). answer.out) step.answer_is) (ap (λ (answer : VoiceOut). answer.ended) step.answer_is))

pub returns-clause-last : goal.returns-clause-last
unfolding answer_of_step lane_input
returns-clause-last c k at =
    let j : ℕ = c.args.n - 1 in
    let place : c.from-place.result ≡ j = c.from-place.ensures in
    let whole : to_z w16 (of_z w16 (number_at c.args.previous.now j)) ≡ number_at c.args.previous.now j = search rules in
    let input : c.input-input.result ≡ lane_inputs c.args.reads.now.seen c.args.reads.now.rows.now c.args.previous.now j = rw whole at (rw place at c.input-input.ensures.value) in
    let here : c.play_row-rendered.result.at ≡ j = omega (arith, c.play_row-rendered.ensures.from, c.play_row-rendered.ensures.to, c.if-rendered-n.false, c.requires.some) in
    let played = rw here at (c.play_row-rendered.ensures.played k at) in
    let step = rw input at (c.play_sample-answer.ensures k at) in
    rw played.voice_is at step.answer_is

pub returns-clause-lower : goal.returns-clause-lower
returns-clause-lower c j below =
    let last : ℕ = c.args.n - 1 in
    let here : c.play_row-rendered.result.at ≡ last = omega (arith, c.play_row-rendered.ensures.from, c.play_row-rendered.ensures.to, c.if-rendered-n.false, c.requires.some) in
    let same : slice_index c.play_row-rendered.new.made.ends last ≡ slice_index c.args.made.now.ends last = c.play_row-rendered.ensures.others last (omega (arith, here)) in
    let own : slice_index c.play_row-rendered.new.made.ends last < 2 ^ c.args.reads.now.seen.voice = rw same (c.requires.lower last (omega (arith, c.requires.some, c.requires.few))) in
    rw c.mark_ended.ensures (with_ended-bound c.play_row-rendered.new.made.ends last c.args.reads.now.seen.voice j c.play_sample-answer.result.ended (search rules) own (c.play_row-rendered.ensures.lower j below))

pub returns-then-rendered-n-clause-played : goal.returns-then-rendered-n-clause-played
returns-then-rendered-n-clause-played c k at = rw c.if-rendered-n.true at (c.play_row-rendered.ensures.played k at)

pub returns-then-rendered-n-clause-last : goal.returns-then-rendered-n-clause-last
returns-then-rendered-n-clause-last c k at =
    let all : c.args.n ≡ c.args.n - 1 + 1 = omega (arith, c.requires.some) in
    let whole : c.play_row-rendered.result.at ≡ c.args.n = c.if-rendered-n.true in
    let played = rw whole at (c.play_row-rendered.ensures.played k at) in
    c.span_answer.ensures k c.args.made.now.ends c.args.voice.now (rw all at played)
    (c.requires.lower (c.args.n - 1) (omega (arith, c.requires.some, c.requires.few))) (c.play_row-rendered.ensures.level k at whole)
