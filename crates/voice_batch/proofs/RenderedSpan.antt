-- Lanes that let a span be rendered.
use Rattle.std.proofs.Common.{◌≡◌, ℕ, ◌+◌, ◌<◌, ◌≤◌, Bool, true, false, List, ℤ, get_or, slice_index, refl, sym, ap, ◌∙◌, arith}
use Rattle.std.proofs.lemmas.Bool.{and_right}
use Rattle.voice_unit.specs.Batch.{lane_input, Lane, lane_of}
use Rattle.voice_batch.specs.Plain.{IsPlain}
use Rattle.voice_batch.specs.Play.{IsLaneOver, RendersSpan}
use Rattle.voice_batch.specs.Row.{next_phase, ArePhases}
use Rattle.voice_batch.specs.SpanPhases.{pitches_from, steady_phases, phase_at, MoveOn}
use Rattle.voice_unit.specs.declared.batch.VoiceReads.{VoiceReads}
use Rattle.voice_batch.specs.declared.span_phases.SpanPhases.{SpanPhases}
use Rattle.voice_unit.specs.Voice.{VoiceState, modulated_pitch, is_modulated, pitch_of}
use Rattle.voice_unit.specs.declared.interface.VoiceRegs.{VoiceRegs}
use Rattle.voice_unit.specs.declared.interface.VoiceIn.{VoiceIn}
use Rattle.voice_batch.proofs.Counting.{steady, moves_on, fewer_phases}

pub own_pitch : (r : VoiceRegs) (i : VoiceIn) → i.modulated ≡ false → pitch_of r i ≡ r.pitch
unfolding pitch_of
own_pitch r i unmodulated = rw unmodulated refl

pub other_pitch : (r : VoiceRegs) (i : VoiceIn) → i.modulated ≡ true → pitch_of r i ≡ modulated_pitch r.pitch i.previous
unfolding pitch_of
other_pitch r i modulated = rw modulated refl

-- samples that stand by the same pitches
same_pitches : (pitches others : ℕ → ℕ) (n position : ℕ) (phases : ℕ → ℕ) → ((j : ℕ) → j < n → pitches j ≡ others j) → ArePhases pitches n position phases → ArePhases others n position phases
same_pitches pitches others n position phases same are = record {
  first = are.first;
  next = λ j below. are.next j below ∙ ap (next_phase (phases j)) (same j below);
}

-- at its own pitch a voice's samples stand so
pub unmodulated_phases : (r : VoiceRegs) (inputs : ℕ → VoiceIn) (n position : ℕ) → ((j : ℕ) → j < n → (inputs j).modulated ≡ false) → r.pitch < 0x4000
    → ArePhases (λ j. pitch_of r (inputs j)) n position (steady_phases position r.pitch)
unmodulated_phases r inputs n position unmodulated slow =
    same_pitches (λ j. r.pitch) (λ j. pitch_of r (inputs j)) n position (steady_phases position r.pitch) (λ j below. sym (own_pitch r (inputs j) (unmodulated j below))) (steady r.pitch n position slow)

-- a span is rendered over plain samples
pub lane_renders_span : (reads : VoiceReads) (previous : List ℤ) (voice : VoiceState) (k from end : ℕ)
    → ((j : ℕ) → from ≤ j → j < end → IsPlain reads.seen reads.rows.now j)
    → RendersSpan reads.seen (lane_of reads previous voice k) from end
unfolding lane_input
lane_renders_span reads previous voice k from end plain = λ j since below. record {
  dir = refl;
  reset = refl;
  koff = refl;
  unkeyed = rw (plain j since below) (and_right (get_or reads.rows.now.poll j false) false refl);
  modulated = refl;
  noisy = refl;
}

-- how far the first m samples of a span stand, by the pitches of a lane
pub phases_in_span : (reads : VoiceReads) (pitches : List ℕ) (lane : Lane) (span_phases : SpanPhases) (at n m position : ℕ) (phases : List ℕ) → IsLaneOver reads pitches lane
    → RendersSpan reads.seen lane at (at + n) → at + n ≤ 64 → m ≤ n → reads.regs.pitch < 0x4000
    → span_phases.position ≡ position → span_phases.pitch ≡ reads.regs.pitch → span_phases.modulated ≡ is_modulated reads.seen.pmon reads.seen.voice → span_phases.phases.now ≡ phases
    → (is_modulated reads.seen.pmon reads.seen.voice ≡ true → ArePhases (pitches_from pitches at) n position (slice_index phases))
    → ArePhases (λ j. pitch_of lane.regs (lane.inputs (at + j))) m position (phase_at span_phases)
unfolding phase_at
phases_in_span reads pitches lane span_phases at n m position phases over renders few less slow is_position is_pitch modulated_is are put = by (is_modulated reads.seen.pmon reads.seen.voice) refl
  where
    heard : (j : ℕ) → j < m → (lane.inputs (at + j)).modulated ≡ is_modulated reads.seen.pmon reads.seen.voice
    heard j below = (renders (at + j) (omega arith) (omega (arith, below, less))).modulated

    modulated : is_modulated reads.seen.pmon reads.seen.voice ≡ true → ArePhases (λ j. pitch_of lane.regs (lane.inputs (at + j))) m position (slice_index phases)
    modulated e = same_pitches (pitches_from pitches at) (λ j. pitch_of lane.regs (lane.inputs (at + j))) m position (slice_index phases)
        (λ j below. over.modulated e (at + j) (omega (arith, below, less, few))
        ∙ sym (other_pitch lane.regs (lane.inputs (at + j)) (heard j below ∙ e) ∙ ap (λ (r : VoiceRegs). modulated_pitch r.pitch (lane.inputs (at + j)).previous) over.regs))
        (fewer_phases (pitches_from pitches at) n m position (slice_index phases) less (put e))

    own : is_modulated reads.seen.pmon reads.seen.voice ≡ false → ArePhases (λ j. pitch_of lane.regs (lane.inputs (at + j))) m position (steady_phases position reads.regs.pitch)
    own e = rw over.regs (unmodulated_phases reads.regs (λ j. lane.inputs (at + j)) m position (λ j below. heard j below ∙ e) slow)

    by : (b : Bool) → is_modulated reads.seen.pmon reads.seen.voice ≡ b → ArePhases (λ j. pitch_of lane.regs (lane.inputs (at + j))) m position (phase_at span_phases)
    by true e = rw (modulated_is, e, are) (modulated e)
    by false e = rw (modulated_is, e, is_position, is_pitch) (own e)

-- they stand one after another
pub span_phases_move : (span_phases : SpanPhases) (n : ℕ) → span_phases.position < 0x8000 → span_phases.pitch < 0x4000 → (span_phases.modulated ≡ true → MoveOn (slice_index span_phases.phases.now) n) → MoveOn (phase_at span_phases) n
unfolding phase_at
span_phases_move span_phases n low slow modulated = by span_phases.modulated refl
  where
    by : (b : Bool) → span_phases.modulated ≡ b → MoveOn (phase_at span_phases) n
    by true e = rw e (modulated e)
    by false e = rw e (moves_on (λ j. span_phases.pitch) n span_phases.position (steady_phases span_phases.position span_phases.pitch) low (steady span_phases.pitch n span_phases.position slow))
