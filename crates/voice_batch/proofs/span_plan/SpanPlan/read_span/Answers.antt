use Rattle.std.proofs.Common.{◌≡◌, ◌+◌, ◌-◌, ◌<◌, ◌≤◌, nat_lt, ℕ, Bool, true, false, List, take, slice_index, refl, sym, ap, ◌∙◌, arith}
use Rattle.std.proofs.lemmas.Bool.Decides.{nat_tests}
use Rattle.voice_batch.specs.Row.{groups_left, groups_before, ended_in}
use Rattle.voice_batch.specs.SpanPhases.{phase_at}
use Rattle.voice_batch.specs.declared.row.Place.{Place}
use Rattle.voice_batch.proofs.Counting.{fewer, groups_before-rise}
use Rattle.voice_batch.proofs.EndBits.{bit_if, marked, marked-none, marked-later, marked-all}
use Rattle.voice_batch.proofs.InBlock.{within_block, after_block, row_with_block, marks_with_block, marked-through, quiet_in_block, quiet_after_block}
use Rattle.voice_batch.proofs.RowOfVoice.{kept_row-zero, place_after-zero}
use Rattle.voice_batch.proofs.span_plan.SpanPlan.read_span.Goals as goal

pub blocks-2-init : goal.blocks-2-init
blocks-2-init c = record {
  few = omega arith;
  row = sym (kept_row-zero _ _ _ _);
  there = sym (place_after-zero _ _ _);
  group = c.requires.span_plan.group;
  header = c.get-header.ensures;
  marks = λ j below.
      let none = marked-none c.args.memory.now c.args.self.now.loop_word c.args.self.now.first (phase_at c.args.self.now.span_phases) c.args.self.now.voice j in
      rw none (omega arith);
  before = λ i below. refl;
  later = λ i above. refl;
  quiet = λ awake e few.
      let none : e ≡ 0 = omega (arith, few) in
      rw (none, place_after-zero) awake;
}

pub blocks-2-preserved : goal.blocks-2-preserved
blocks-2-preserved c =
    let memory : List ℕ = c.args.memory.now in
    let loop_word : ℕ = c.args.self.now.loop_word in
    let first : Place = c.args.self.now.first in
    let d : ℕ = c.blocks-2.d in
    let at : Place = c.blocks-2.place in
    let left : ℕ = c.groups_left-left.result in
    let all : left ≡ groups_left at = c.groups_left-left.ensures.value in
    let there = c.blocks-2.invariant.there in
    let group = c.blocks-2.invariant.group in
    record {
      few = omega (arith, c.if-count-d.false);
      row = row_with_block memory loop_word first d at there group left all (take 12 c.args.row.now) c.blocks-2.row c.read_rest.new.row c.blocks-2.invariant.row
          (λ e few. rw c.from.ensures at (c.read_rest.ensures loop_word e few)) left (omega arith);
      there = c.next_block-next.ensures.first ∙ sym (after_block memory loop_word first d at there group left all);
      group = c.next_block-next.ensures.group;
      header = c.next_block-next.ensures.header;
      marks = λ j below. marks_with_block memory loop_word first d at there group left all (phase_at c.args.self.now.span_phases) c.args.self.now.voice j _ _ _
          (c.next_block-next.ensures.ends.marks j below) (c.blocks-2.invariant.marks j below);
      before = λ i below. c.next_block-next.ensures.ends.before_it i below ∙ c.blocks-2.invariant.before i below;
      later = λ i above. c.next_block-next.ensures.ends.later i above ∙ c.blocks-2.invariant.later i above;
      quiet = λ awake e few audible. quiet_after_block memory loop_word first d at there group left all c.args.self.now.reset c.args.self.now.silent c.next_block-next.result.first c.next_block-next.ensures.first
          (c.blocks-2.invariant.quiet awake) (c.next_block-next.ensures.quiet c.if-next.false) e few audible;
    }

-- the span ends within a block
pub returns-then-count-d-clause-span : goal.returns-then-count-d-clause-span
returns-then-count-d-clause-span c =
    let d : ℕ = c.blocks-2.d in
    let at : Place = c.blocks-2.place in
    let e : ℕ = c.groups_in-count.result - d in
    let done : d + e ≡ c.groups_in-count.result = omega (arith, c.blocks-2.invariant.few) in
    record {
      some = c.requires.some;
      few = omega arith;
      groups = c.groups_in-count.ensures.value;
      few_groups = c.groups_in-count.ensures.few;
      next = c.further.ensures.place ∙ sym (rw done at (within_block c.args.memory.now c.args.self.now.loop_word c.args.self.now.first d at c.blocks-2.invariant.there c.blocks-2.invariant.group
          c.groups_left-left.result c.groups_left-left.ensures.value e c.if-count-d.true));
      group = c.further.ensures.group;
    }

pub returns-then-count-d-clause-row : goal.returns-then-count-d-clause-row
returns-then-count-d-clause-row c =
    let d : ℕ = c.blocks-2.d in
    let at : Place = c.blocks-2.place in
    let e : ℕ = c.groups_in-count.result - d in
    let few : e < c.groups_left-left.result = c.if-count-d.true in
    let done : d + e ≡ c.groups_in-count.result = omega (arith, c.blocks-2.invariant.few) in
    rw done at (row_with_block c.args.memory.now c.args.self.now.loop_word c.args.self.now.first d at c.blocks-2.invariant.there c.blocks-2.invariant.group
    c.groups_left-left.result c.groups_left-left.ensures.value (take 12 c.args.row.now) c.blocks-2.row c.read_rest.new.row c.blocks-2.invariant.row
    (λ e few. rw c.from.ensures at (c.read_rest.ensures c.args.self.now.loop_word e few)) e (omega (arith, few)))

pub returns-then-count-d-clause-ends : goal.returns-then-count-d-clause-ends
returns-then-count-d-clause-ends c = record {
  marks = λ j below. marks j below;
  before_it = c.blocks-2.invariant.before;
  later = c.blocks-2.invariant.later;
}
  where
    marks : (j : ℕ) → j < c.args.n → slice_index c.blocks-2.ends (c.args.at + j) ≡ slice_index c.args.ends.now (c.args.at + j)
        + bit_if (ended_in c.args.memory.now c.args.self.now.loop_word c.args.self.now.first (phase_at c.args.self.now.span_phases) j) c.args.self.now.voice
    marks j below =
        let d : ℕ = c.blocks-2.d in
        let v : ℕ = c.args.self.now.voice in
        let e : ℕ = c.groups_in-count.result - d in
        let few : e < groups_left c.blocks-2.place = rw c.groups_left-left.ensures.value at c.if-count-d.true in
        let done : groups_before (phase_at c.args.self.now.span_phases) c.args.n ≡ d + e = omega (arith, c.groups_in-count.ensures.value, c.blocks-2.invariant.few) in
        let through = marked-through c.args.memory.now c.args.self.now.loop_word c.args.self.now.first c.blocks-2.place (phase_at c.args.self.now.span_phases) v d j e
        c.blocks-2.invariant.group c.blocks-2.invariant.there few in
        let all = rw done at (marked-all c.args.memory.now c.args.self.now.loop_word c.args.self.now.first (phase_at c.args.self.now.span_phases) v c.args.n j c.requires.span_plan.span_phases.moves below) in
        c.blocks-2.invariant.marks j below ∙ ap (λ (x : ℕ). slice_index c.args.ends.now (c.args.at + j) + x) (sym through)
        ∙ ap (λ (b : Bool). slice_index c.args.ends.now (c.args.at + j) + bit_if b v) all

pub returns-then-count-d-clause-quiet : goal.returns-then-count-d-clause-quiet
returns-then-count-d-clause-quiet c awake j below audible =
    let rise = groups_before-rise (phase_at c.args.self.now.span_phases) c.args.n c.requires.span_plan.span_phases.moves j c.args.n (omega (arith, below)) (omega arith) in
    quiet_in_block c.args.memory.now c.args.self.now.loop_word c.args.self.now.first c.blocks-2.d c.blocks-2.place c.blocks-2.invariant.there c.blocks-2.invariant.group
    c.groups_left-left.result c.groups_left-left.ensures.value c.args.self.now.reset c.args.self.now.silent (c.blocks-2.invariant.quiet awake) _
    (omega (arith, rise, c.groups_in-count.ensures.value, c.blocks-2.invariant.few, c.if-count-d.true)) audible

-- the header of the next block silences the voice
pub returns-then-next-clause-span : goal.returns-then-next-clause-span
returns-then-next-clause-span c = record {
  some = omega arith;
  few = omega (arith, c.reading_sample-sample.ensures.within);
  groups = omega (arith, c.reading_sample-sample.ensures.after, c.groups_left-left.ensures.some);
  few_groups = omega (arith, c.groups_in-count.ensures.few, c.blocks-2.invariant.few, c.if-count-d.false);
  next = c.next_block-next.ensures.first ∙ sym (after_block c.args.memory.now c.args.self.now.loop_word c.args.self.now.first c.blocks-2.d c.blocks-2.place c.blocks-2.invariant.there
      c.blocks-2.invariant.group c.groups_left-left.result c.groups_left-left.ensures.value);
  group = c.next_block-next.ensures.group;
}

pub returns-then-next-clause-row : goal.returns-then-next-clause-row
returns-then-next-clause-row c =
    row_with_block c.args.memory.now c.args.self.now.loop_word c.args.self.now.first c.blocks-2.d c.blocks-2.place c.blocks-2.invariant.there c.blocks-2.invariant.group
    c.groups_left-left.result c.groups_left-left.ensures.value (take 12 c.args.row.now) c.blocks-2.row c.read_rest.new.row c.blocks-2.invariant.row
    (λ e few. rw c.from.ensures at (c.read_rest.ensures c.args.self.now.loop_word e few)) c.groups_left-left.result (omega arith)

pub returns-then-next-clause-ends : goal.returns-then-next-clause-ends
returns-then-next-clause-ends c = record {
  marks = λ j below. marks j below;
  before_it = λ i below. c.next_block-next.ensures.ends.before_it i below ∙ c.blocks-2.invariant.before i below;
  later = λ i above. later i above;
}
  where
    phases : ℕ → ℕ
    phases = phase_at c.args.self.now.span_phases

    v : ℕ
    v = c.args.self.now.voice

    d : ℕ
    d = c.blocks-2.d + c.groups_left-left.result

    q : ℕ
    q = c.reading_sample-sample.result

    after : groups_before phases (q + 1) ≡ d
    after = omega (arith, c.reading_sample-sample.ensures.after, c.groups_left-left.ensures.some)

    grown : (j : ℕ) → j < c.args.n → slice_index c.next_block-next.new.ends (c.args.at + j) ≡ slice_index c.args.ends.now (c.args.at + j)
        + bit_if (marked c.args.memory.now c.args.self.now.loop_word c.args.self.now.first phases v d j) v
    grown j within = marks_with_block c.args.memory.now c.args.self.now.loop_word c.args.self.now.first c.blocks-2.d c.blocks-2.place c.blocks-2.invariant.there c.blocks-2.invariant.group
        c.groups_left-left.result c.groups_left-left.ensures.value phases v j _ _ _ (c.next_block-next.ensures.ends.marks j within) (c.blocks-2.invariant.marks j within)

    marks : (j : ℕ) → j < q + 1 → slice_index c.next_block-next.new.ends (c.args.at + j) ≡ slice_index c.args.ends.now (c.args.at + j)
        + bit_if (ended_in c.args.memory.now c.args.self.now.loop_word c.args.self.now.first phases j) v
    marks j below =
        let within : j < c.args.n = omega (arith, below, c.reading_sample-sample.ensures.within) in
        let all = rw after at (marked-all c.args.memory.now c.args.self.now.loop_word c.args.self.now.first phases v (q + 1) j
        (fewer phases c.args.n (q + 1) (omega (arith, c.reading_sample-sample.ensures.within)) c.requires.span_plan.span_phases.moves) below) in
        grown j within ∙ ap (λ (b : Bool). slice_index c.args.ends.now (c.args.at + j) + bit_if b v) all

    later : (i : ℕ) → c.args.at + (q + 1) ≤ i → slice_index c.next_block-next.new.ends i ≡ slice_index c.args.ends.now i
    later i above = by (nat_lt i (c.args.at + c.args.n)) refl
      where
        by : (b : Bool) → nat_lt i (c.args.at + c.args.n) ≡ b → slice_index c.next_block-next.new.ends i ≡ slice_index c.args.ends.now i
        by true e =
            let below : i < c.args.at + c.args.n = grind (arith, nat_tests, e) in
            let part : c.args.at + (i - c.args.at) ≡ i = omega (arith, above) in
            let within : i - c.args.at < c.args.n = omega (arith, below, above) in
            let rise = groups_before-rise phases c.args.n c.requires.span_plan.span_phases.moves (q + 1) (i - c.args.at) (omega (arith, above)) (omega (arith, within)) in
            let none = marked-later c.args.memory.now c.args.self.now.loop_word c.args.self.now.first phases v d (i - c.args.at) (omega (arith, rise, after)) in
            let old : ℕ = slice_index c.args.ends.now (c.args.at + (i - c.args.at)) in
            let more : old + 0 ≡ old = omega arith in
            let kept = rw none at (grown (i - c.args.at) within) ∙ more in
            rw part at kept
        by false e =
            let late : c.args.at + c.args.n ≤ i = grind (arith, nat_tests, e) in
            c.next_block-next.ensures.ends.later i late ∙ c.blocks-2.invariant.later i late

pub returns-then-next-clause-quiet : goal.returns-then-next-clause-quiet
returns-then-next-clause-quiet c awake j below audible =
    let rise = groups_before-rise (phase_at c.args.self.now.span_phases) c.args.n c.requires.span_plan.span_phases.moves j c.reading_sample-sample.result (omega (arith, below))
    (omega (arith, c.reading_sample-sample.ensures.within)) in
    quiet_in_block c.args.memory.now c.args.self.now.loop_word c.args.self.now.first c.blocks-2.d c.blocks-2.place c.blocks-2.invariant.there c.blocks-2.invariant.group
    c.groups_left-left.result c.groups_left-left.ensures.value c.args.self.now.reset c.args.self.now.silent (c.blocks-2.invariant.quiet awake) _
    (omega (arith, rise, c.reading_sample-sample.ensures.before, c.groups_left-left.ensures.some)) audible

-- all groups of the span are read, and a block ends with them
pub returns-clause-ends : goal.returns-clause-ends
returns-clause-ends c = record {
  marks = λ j below. marks j below;
  before_it = c.blocks-2.invariant.before;
  later = c.blocks-2.invariant.later;
}
  where
    marks : (j : ℕ) → j < c.args.n → slice_index c.blocks-2.ends (c.args.at + j) ≡ slice_index c.args.ends.now (c.args.at + j)
        + bit_if (ended_in c.args.memory.now c.args.self.now.loop_word c.args.self.now.first (phase_at c.args.self.now.span_phases) j) c.args.self.now.voice
    marks j below =
        let d : ℕ = c.blocks-2.d in
        let v : ℕ = c.args.self.now.voice in
        let done : groups_before (phase_at c.args.self.now.span_phases) c.args.n ≡ d = omega (arith, c.groups_in-count.ensures.value, c.blocks-2-test.false, c.blocks-2.invariant.few) in
        let all = rw done at (marked-all c.args.memory.now c.args.self.now.loop_word c.args.self.now.first (phase_at c.args.self.now.span_phases) v c.args.n j c.requires.span_plan.span_phases.moves below) in
        c.blocks-2.invariant.marks j below ∙ ap (λ (b : Bool). slice_index c.args.ends.now (c.args.at + j) + bit_if b v) all

pub returns-clause-quiet : goal.returns-clause-quiet
returns-clause-quiet c awake j below audible =
    let rise = groups_before-rise (phase_at c.args.self.now.span_phases) c.args.n c.requires.span_plan.span_phases.moves j c.args.n (omega (arith, below)) (omega arith) in
    c.blocks-2.invariant.quiet awake _ (omega (arith, rise, c.groups_in-count.ensures.value, c.blocks-2-test.false, c.blocks-2.invariant.few)) audible
