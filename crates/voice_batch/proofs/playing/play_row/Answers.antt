use Rattle.std.proofs.Common.{rules, ◌≡◌, ◌≢◌, ◌<◌, ◌≤◌, ◌+◌, ◌^◌, ℕ, to_z, of_z, length, slice_index, refl, ap, ◌∙◌, arith}
use Rattle.std.specs.Int.{w16}
use Rattle.std.proofs.lemmas.List.{length-set}
use Rattle.num_fix.specs.SignedWords.{number_at}
use Rattle.rate_clock.specs.Counter.{counter_at}
use Rattle.voice_unit.specs.Batch.{lane_input, lane_inputs, lane_of}
use Rattle.voice_batch.specs.OneSample.{IsStep}
use Rattle.voice_batch.specs.Play.{IsPlayed}
use Rattle.voice_unit.specs.declared.interface.VoiceOut.{VoiceOut}
use Rattle.voice_batch.proofs.RenderedSpan.{lane_renders_span}
use Rattle.voice_batch.proofs.Played.{none_played, one_more_played, with_ended-other, with_ended-bound, doubled}
use Rattle.voice_batch.proofs.playing.play_row.Goals as goal

pub samples-init : goal.samples-init
samples-init c = record {
  played = λ k at. none_played (lane_of c.args.reads.now c.args.previous.now c.args.voice.now k) c.args.reads.now.seen.voice c.args.made.now.ends c.args.made.now.outs;
  within = omega arith;
  later = λ j above. refl;
  lower = λ j below. rw (doubled c.args.reads.now.seen.voice) (omega (arith, c.requires.lower j below));
  modulated = c.put_pitches.ensures;
  outs_long = search rules;
  ends_long = search rules;
}

pub samples-preserved : goal.samples-preserved
unfolding lane_input
samples-preserved c =
    let j : ℕ = c.samples.j in
    let to : ℕ = c.render_span-rendered.result.at in
    let from : j ≤ to = c.render_span-rendered.ensures.from in
    let below : to < c.args.n = omega (arith, c.if-last-to.false) in
    let place : c.from-place.result ≡ to = c.from-place.ensures in
    let played : (k : ℕ) → c.args.reads.now.clock ≡ counter_at k
    → IsPlayed (lane_of c.args.reads.now c.args.previous.now c.args.voice.now k) c.args.reads.now.seen.voice
    to c.args.made.now.ends c.render_span-rendered.new.made.ends c.render_span-rendered.new.made.outs c.render_span-rendered.new.voice =
    λ k at. c.render_span-rendered.ensures.played (lane_of c.args.reads.now c.args.previous.now c.args.voice.now k) c.args.made.now.ends
    (record {
      over = record { regs = refl; modulated = c.samples.invariant.modulated; memory = refl; table = refl; clock = at; noise = λ i. refl };
      plainly = lane_renders_span c.args.reads.now c.args.previous.now c.args.voice.now k c.samples.j c.end_from-end.result
          (λ i since below. c.plain_samples-plain.ensures i (omega (arith, below, c.end_from-end.ensures.to, c.requires.few)) (c.end_from-end.ensures.plain i since below));
      played = c.samples.invariant.played k at;
    }) in
    let whole : to_z w16 (of_z w16 (number_at c.args.previous.now to)) ≡ number_at c.args.previous.now to = search rules in
    let input : c.input-input.result ≡ lane_inputs c.args.reads.now.seen c.args.reads.now.rows.now c.args.previous.now to = rw whole at (rw place at c.input-input.ensures.value) in
    let step : (k : ℕ) → c.args.reads.now.clock ≡ counter_at k
    → IsStep c.args.reads.now.regs (lane_inputs c.args.reads.now.seen c.args.reads.now.rows.now c.args.previous.now to) c.args.reads.now.memory.now c.args.reads.now.table.now (counter_at (k + to))
    c.render_span-rendered.new.voice c.play_sample-answer.result c.play_sample-answer.new.voice =
    λ k at. rw input at (c.play_sample-answer.ensures k at) in
    let out : to_z w16 (of_z w16 c.play_sample-answer.result.out) ≡ c.play_sample-answer.result.out = search rules in
    let outs_long : length c.render_span-rendered.new.made.outs ≡ 64 = search rules in
    let within_outs : to < length c.render_span-rendered.new.made.outs = rw outs_long (omega (arith, below, c.requires.few)) in
    let ends_long : length c.render_span-rendered.new.made.ends ≡ 64 = search rules in
    let within_ends : to < length c.render_span-rendered.new.made.ends = rw ends_long (omega (arith, below, c.requires.few)) in
    record {
      played = λ k at. rw (place, out, c.mark_ended.ensures) (one_more_played
          (lane_of c.args.reads.now c.args.previous.now c.args.voice.now k) c.args.reads.now.seen.voice to
          c.args.made.now.ends c.render_span-rendered.new.made.ends c.render_span-rendered.new.made.outs c.render_span-rendered.new.voice c.play_sample-answer.new.voice c.play_sample-answer.result.out c.play_sample-answer.result.ended
          (played k at) within_outs within_ends
          (step k at).voice (ap (λ (answer : VoiceOut). answer.out) (step k at).answer_is) (ap (λ (answer : VoiceOut). answer.ended) (step k at).answer_is));
      within = omega (arith, c.if-last-to.false);
      later = λ i above.
          let other : i ≢ to = λ e. absurd (omega (arith, e, above)) in
          rw c.mark_ended.ensures (with_ended-other c.render_span-rendered.new.made.ends to c.args.reads.now.seen.voice i c.play_sample-answer.result.ended other
          ∙ c.render_span-rendered.ensures.later i (omega (arith, above)) ∙ c.samples.invariant.later i (omega (arith, above, from)));
      lower = λ i under.
          let own : slice_index c.render_span-rendered.new.made.ends to < 2 ^ c.args.reads.now.seen.voice = rw (c.render_span-rendered.ensures.later to (omega arith), c.samples.invariant.later to from) (c.requires.lower to (omega (arith, below, c.requires.few))) in
          rw c.mark_ended.ensures (with_ended-bound c.render_span-rendered.new.made.ends to c.args.reads.now.seen.voice i c.play_sample-answer.result.ended within_ends own (c.render_span-rendered.ensures.lower i under));
      modulated = λ modulated i below. rw c.render_span-rendered.ensures.pitches (c.samples.invariant.modulated modulated i below);
      outs_long = length-set c.render_span-rendered.new.made.outs c.from-place.result (to_z w16 (of_z w16 c.play_sample-answer.result.out)) ∙ outs_long;
      ends_long = c.mark_ended.array_long.1;
    }

pub samples-smaller : goal.samples-smaller
samples-smaller c = omega (arith, c.samples-test.true, c.render_span-rendered.ensures.from, c.render_span-rendered.ensures.to, c.end_from-end.ensures.to)

pub returns-clause-played : goal.returns-clause-played
returns-clause-played c k at = c.samples.invariant.played k at

pub returns-then-last-eq0-clause-played : goal.returns-then-last-eq0-clause-played
returns-then-last-eq0-clause-played c k at =
    none_played (lane_of c.args.reads.now c.args.previous.now c.args.voice.now k) c.args.reads.now.seen.voice c.args.made.now.ends c.args.made.now.outs

pub returns-then-last-to-clause-played : goal.returns-then-last-to-clause-played
unfolding lane_input
returns-then-last-to-clause-played c k at =
    c.render_span-rendered.ensures.played (lane_of c.args.reads.now c.args.previous.now c.args.voice.now k) c.args.made.now.ends
    (record {
      over = record { regs = refl; modulated = c.samples.invariant.modulated; memory = refl; table = refl; clock = at; noise = λ i. refl };
      plainly = lane_renders_span c.args.reads.now c.args.previous.now c.args.voice.now k c.samples.j c.end_from-end.result
          (λ i since below. c.plain_samples-plain.ensures i (omega (arith, below, c.end_from-end.ensures.to, c.requires.few)) (c.end_from-end.ensures.plain i since below));
      played = c.samples.invariant.played k at;
    })

pub returns-then-last-to-clause-level : goal.returns-then-last-to-clause-level
unfolding lane_input
returns-then-last-to-clause-level c k at all =
    let level = c.render_span-rendered.ensures.level (lane_of c.args.reads.now c.args.previous.now c.args.voice.now k) c.args.made.now.ends
    (record {
      over = record { regs = refl; modulated = c.samples.invariant.modulated; memory = refl; table = refl; clock = at; noise = λ i. refl };
      plainly = lane_renders_span c.args.reads.now c.args.previous.now c.args.voice.now k c.samples.j c.end_from-end.result
          (λ i since below. c.plain_samples-plain.ensures i (omega (arith, below, c.end_from-end.ensures.to, c.requires.few)) (c.end_from-end.ensures.plain i since below));
      played = c.samples.invariant.played k at;
    }) (omega (arith, all, c.samples-test.true)) in
    rw all at level
