use Rattle.std.proofs.Common.{rules, ◌≡◌, ◌<◌, ◌≤◌, ◌+◌, ℕ, slice_index, length, sym, ap, ◌∙◌, arith}
use Rattle.std.proofs.lemmas.List.{length-set, get_or-set_same}
use Rattle.voice_batch.specs.Row.{next_phase}
use Rattle.voice_batch.specs.SpanPhases.{pitches_from}
use Rattle.voice_batch.proofs.Counting.{first_phase, free_phase, one_phase_more}
use Rattle.voice_batch.proofs.span_phases.put_summed_phases.Goals as goal

pub loop-j-init : goal.loop-j-init
loop-j-init c =
    let long : length c.args.phases.now ≡ 65 = search rules in
    let within : 0 < length c.args.phases.now = rw long (omega arith) in
    record {
      phases = first_phase (pitches_from c.args.pitches.now c.args.at) c.args.position c.args.phases.now c.from-phase.result within c.from-phase.ensures;
      phase = sym (get_or-set_same c.args.phases.now 0 c.from-phase.result 0 within);
      bound = omega (arith, c.from-phase.ensures, c.requires.position);
      long = length-set c.args.phases.now 0 c.from-phase.result ∙ long;
    }

-- the pitch of the sample that is next
pitch_is : (c : goal.After-from-phase-in-loop-j) → c.from-phase-in-loop-j.result ≡ slice_index c.args.pitches.now (c.args.at + c.loop-j.j)
pitch_is c = c.from-phase-in-loop-j.ensures ∙ ap (λ (from : ℕ). slice_index c.args.pitches.now (from + c.loop-j.j)) c.from-from.ensures

is_free : (c : goal.After-from-phase-in-loop-j) → slice_index c.args.pitches.now (c.args.at + c.loop-j.j) ≤ 0x4000
is_free c = c.requires.free (c.args.at + c.loop-j.j) (omega (arith, c.loop-j-test.true, c.from-j-end.ensures, c.requires.few))

pub overflow_add-phase : goal.overflow_add-phase
overflow_add-phase c = omega (arith, c.loop-j.invariant.bound, pitch_is c, is_free c, c.loop-j-test.true, c.from-j-end.ensures, c.requires.few)

pub loop-j-preserved : goal.loop-j-preserved
loop-j-preserved c =
    let j : ℕ = c.loop-j.j in
    let next : ℕ = c.loop-j.phase + c.from-phase-in-loop-j.result in
    let pitch : c.from-phase-in-loop-j.result ≡ slice_index c.args.pitches.now (c.args.at + j) =
    c.from-phase-in-loop-j.ensures ∙ ap (λ (from : ℕ). slice_index c.args.pitches.now (from + j)) c.from-from.ensures in
    let free : slice_index c.args.pitches.now (c.args.at + j) ≤ 0x4000 = c.requires.free (c.args.at + j) (omega (arith, c.loop-j-test.true, c.from-j-end.ensures, c.requires.few)) in
    let within : j + 1 < length c.loop-j.phases = rw c.loop-j.invariant.long (omega (arith, c.loop-j-test.true, c.from-j-end.ensures, c.requires.few)) in
    let sum : next ≡ slice_index c.loop-j.phases j + slice_index c.args.pitches.now (c.args.at + j) = omega (arith, c.loop-j.invariant.phase, pitch) in
    let value : next ≡ next_phase (slice_index c.loop-j.phases j) (slice_index c.args.pitches.now (c.args.at + j)) =
    sum ∙ sym (free_phase (slice_index c.loop-j.phases j) (slice_index c.args.pitches.now (c.args.at + j)) free) in
    record {
      phases = one_phase_more (pitches_from c.args.pitches.now c.args.at) j c.args.position c.loop-j.phases next within value c.loop-j.invariant.phases;
      phase = sym (get_or-set_same c.loop-j.phases (j + 1) next 0 within);
      bound = omega (arith, pitch, free, c.loop-j.invariant.bound);
      long = length-set c.loop-j.phases (j + 1) next ∙ c.loop-j.invariant.long;
    }

pub returns : goal.returns
returns c =
    let all : c.loop-j.j ≡ c.args.n = omega (arith, c.loop-j-test.false, c.loop-j.auto.j-end, c.from-j-end.ensures) in
    rw all at c.loop-j.invariant.phases
