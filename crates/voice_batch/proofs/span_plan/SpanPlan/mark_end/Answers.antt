use Rattle.std.proofs.Common.{rules, ◌≡◌, ◌+◌, ◌<◌, true, length, sym, ◌∙◌, arith}
use Rattle.voice_batch.specs.Row.{is_end, last_of}
use Rattle.voice_batch.specs.SpanPhases.{phase_at}
use Rattle.voice_batch.proofs.Counting.{Reads}
use Rattle.voice_batch.proofs.EndBits.{mark_one}
use Rattle.voice_batch.proofs.Played.{with_ended-other}
use Rattle.voice_batch.proofs.span_plan.SpanPlan.mark_end.Goals as goal

pub returns-then-has_end : goal.returns-then-has_end
returns-then-has_end c = record {
  marks = λ j below.
      let reads : Reads (phase_at c.args.self.now.span_phases) c.args.group c.reading_sample-j.result = record { before = c.reading_sample-j.ensures.before; after = c.reading_sample-j.ensures.after } in
      let ending : is_end c.args.memory.now (last_of c.args.last.now.block) ≡ true = rw c.requires.header at (sym c.has_end.ensures ∙ c.if-has_end.true) in
      let within : c.args.at + c.reading_sample-j.result < length c.args.ends.now = search rules in
      rw c.mark_ended.ensures (mark_one c.args.ends.now c.args.at c.reading_sample-j.result j c.args.self.now.voice c.args.memory.now (last_of c.args.last.now.block) (phase_at c.args.self.now.span_phases) c.args.n c.args.group
      c.requires.span_plan.span_phases.moves c.reading_sample-j.ensures.within below reads ending within);
  before_it = λ i early. rw c.mark_ended.ensures (with_ended-other c.args.ends.now (c.args.at + c.reading_sample-j.result) c.args.self.now.voice i true (λ e. absurd (omega (arith, e, early))));
  later = λ i late.
      rw c.mark_ended.ensures (with_ended-other c.args.ends.now (c.args.at + c.reading_sample-j.result) c.args.self.now.voice i true (λ e. absurd (omega (arith, e, late, c.reading_sample-j.ensures.within))));
}
