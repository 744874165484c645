-- A sample of chips that differ in volumes of muted voices alone.
use Rattle.std.proofs.Common.{◌≡◌, ℕ, zero, suc, ◌+◌, ◌==◌, ◌%◌, List, [], ◌∷◌, ◌++◌, ℤ, Bool, true, false, pos, map, slice_index, if◌then◌else◌, refl, ap, sym, ◌∙◌, arith}
use Rattle.rate_clock.specs.Counter.{counter_at}
use Rattle.voice_unit.specs.Voice.{VoiceState}
use Rattle.chip_form.specs.Samples.{SamplesResult, samples}
use Rattle.dsp_state.specs.Results.{without_bits, registers_after}
use Rattle.dsp_state.specs.Settings.{voice_settings}
use Rattle.dsp_state.specs.Sample.{SharedInput, VoiceResult, voice_in, voice_result, results_from, shared_input, is_polled, after_poll, after_noise, before_voices, rest_of_sample, sample}
use Rattle.dsp_state.specs.declared.registers.TheConstants.{DIR, FLG, PMON, NON, KOFF}
use Rattle.dsp_state.specs.declared.state.ChipState.{ChipState}
use Rattle.dsp_state.proofs.Inputs.{registers-before_voices, muted-before_voices}
use Rattle.mute_laws.specs.MutedVolumes.{AreAlike, MakeTheSame}
use Rattle.mute_laws.proofs.Registers.{Differ, same_at, same_regs, same_volumes, same_echo, results_in_both}

-- a chip with other registers
abbrev pub with_registers : ChipState → (registers : List ℕ) → ChipState
with_registers s registers = record s { registers = registers }

module _ (muted : ℕ) (these those : List ℕ) (differ : Differ muted these those) where
  -- what becomes of a voice
  same_result : (shared : SharedInput) (v : ℕ) (previous : ℤ) (voice : VoiceState)
      → voice_result (record shared { registers = these }) v previous voice ≡ voice_result (record shared { registers = those }) v previous voice
  unfolding voice_result voice_in voice_settings
  same_result shared v previous voice =
      rw (
        same_regs muted these those differ v,
        same_at muted these those differ DIR (omega arith),
        same_at muted these those differ FLG (omega arith),
        same_at muted these those differ PMON (omega arith),
        same_at muted these those differ NON (omega arith),
        same_at muted these those differ KOFF (omega arith),
      ) refl

  -- what becomes of the voices
  pub same_results : (shared : SharedInput) (v : ℕ) (previous : ℤ) (voices : List VoiceState)
      → results_from (record shared { registers = these }) v previous voices ≡ results_from (record shared { registers = those }) v previous voices
  same_results shared v previous [] = refl
  same_results shared v previous (voice ∷ voices) =
      let out : ℤ = (voice_result (record shared { registers = those }) v previous voice).answer.out in
      rw (same_result shared v previous voice)
      (ap (λ (results : List VoiceResult). voice_result (record shared { registers = those }) v previous voice ∷ results) (same_results shared (v + 1) out voices))

-- the poll concerns the keys alone
poll_with : (s : ChipState) (k : ℕ) (registers : List ℕ) → after_poll (with_registers s registers) k ≡ with_registers (after_poll s k) registers
unfolding after_poll
poll_with s k registers = by (k % 2 == 0)
  where
    kon_pending : ℕ
    kon_pending = without_bits s.hidden.kon_pending s.hidden.kon_latched

    whole : ChipState
    whole = with_registers s registers

    by : (b : Bool) → (if b then record whole { hidden = record whole.hidden { kon_pending = kon_pending; kon_latched = kon_pending } } else whole)
        ≡ with_registers (if b then record s { hidden = record s.hidden { kon_pending = kon_pending; kon_latched = kon_pending } } else s) registers
    by true = refl
    by false = refl

registers-after_poll : (s : ChipState) (k : ℕ) → (after_poll s k).registers ≡ s.registers
unfolding after_noise
registers-after_poll s k = registers-before_voices s k

-- of the registers the noise depends on FLG alone
noise_with : (s : ChipState) (counter : ℕ) (registers : List ℕ) → slice_index registers FLG ≡ slice_index s.registers FLG
    → after_noise (with_registers s registers) counter ≡ with_registers (after_noise s counter) registers
unfolding after_noise
noise_with s counter registers same = rw same refl

before_voices_with : (s : ChipState) (k : ℕ) (registers : List ℕ) → slice_index registers FLG ≡ slice_index s.registers FLG
    → before_voices (with_registers s registers) k ≡ with_registers (before_voices s k) registers
before_voices_with s k registers same =
    ap (λ (t : ChipState). after_noise t (counter_at k)) (poll_with s k registers)
    ∙ noise_with (after_poll s k) (counter_at k) registers (rw (registers-after_poll s k) same)

-- the registers after a sample of a chip with these
unfoldable next_registers : (k : ℕ) (now : ChipState) (memory registers : List ℕ) → List ℕ
next_registers k now memory registers = registers_after (map (λ (result : VoiceResult). result.answer) (results_from (shared_input now memory k) 0 (pos 0) now.hidden.voices)) registers

-- the rest of a sample
rest_with : (k : ℕ) (now : ChipState) (registers memory : List ℕ) → Differ now.muted now.registers registers
    → rest_of_sample k (with_registers now registers) memory
    ≡ record (rest_of_sample k now memory) { state = with_registers (rest_of_sample k now memory).state (next_registers k now memory registers) }
unfolding next_registers
rest_with k now registers memory differ =
    rw (
      same_results now.muted now.registers registers differ (shared_input now memory k) 0 (pos 0) now.hidden.voices,
      same_echo now.muted now.registers registers differ,
      same_volumes now.muted now.registers registers differ,
    ) refl

-- what a sample makes of a chip with other registers
record MakesTheSame (k : ℕ) (s : ChipState) (registers memory : List ℕ) : Type 0 where
  next : List ℕ
  is : sample k (with_registers s registers) memory ≡ record (sample k s memory) { state = with_registers (sample k s memory).state next }
  differ : Differ (sample k s memory).state.muted (sample k s memory).state.registers next

makes_the_same : (k : ℕ) (s : ChipState) (registers memory : List ℕ) → Differ s.muted s.registers registers → MakesTheSame k s registers memory
unfolding sample next_registers
makes_the_same k s registers memory differ =
    let now : ChipState = before_voices s k in
    let flg : slice_index registers FLG ≡ slice_index s.registers FLG = sym (same_at s.muted s.registers registers differ FLG (omega arith)) in
    let still : Differ now.muted now.registers registers = rw (muted-before_voices s k, registers-before_voices s k) differ in
    record {
      next = next_registers k now memory registers;
      is = ap (λ (t : ChipState). rest_of_sample k t memory) (before_voices_with s k registers flg) ∙ rest_with k now registers memory still;
      differ = results_in_both now.muted (map (λ (result : VoiceResult). result.answer) (results_from (shared_input now memory k) 0 (pos 0) now.hidden.voices)) now.registers registers still;
    }

-- what several samples make of it
record MakeAllTheSame (n k : ℕ) (s : ChipState) (registers memory : List ℕ) : Type 0 where
  next : List ℕ
  is : samples sample n k (with_registers s registers) memory ≡ record (samples sample n k s memory) { state = with_registers (samples sample n k s memory).state next }
  differ : Differ (samples sample n k s memory).state.muted (samples sample n k s memory).state.registers next

make_all_the_same : (n k : ℕ) (s : ChipState) (registers memory : List ℕ) → Differ s.muted s.registers registers → MakeAllTheSame n k s registers memory
unfolding samples
make_all_the_same zero k s registers memory differ = record { next = registers; is = refl; differ = differ }
make_all_the_same (suc n) k s registers memory differ =
    let before : MakeAllTheSame n k s registers memory = make_all_the_same n k s registers memory differ in
    let done : SamplesResult ChipState = samples sample n k s memory in
    let one : MakesTheSame (k + n) done.state before.next done.memory = makes_the_same (k + n) done.state before.next done.memory before.differ in
    record { next = one.next; is = rw (before.is, one.is) refl; differ = one.differ }

-- chips that differ in registers alone are alike
pub alike_from : (s t : ChipState) (registers : List ℕ) → t ≡ with_registers s registers → Differ s.muted s.registers registers → AreAlike s t
alike_from s t registers is differ =
    let own : t.registers ≡ registers = ap (λ (u : ChipState). u.registers) is in
    record {
      rest = is ∙ ap (λ (rs : List ℕ). with_registers s rs) (sym own);
      count = rw own differ.count;
      others = λ address free. rw own (differ.others address free);
    }

pub differ_of : (s t : ChipState) → AreAlike s t → Differ s.muted s.registers t.registers
differ_of s t alike = record { count = alike.count; others = alike.others }

pub samples_stay_alike : (n k : ℕ) (s t : ChipState) (memory : List ℕ) → AreAlike s t → MakeTheSame (samples sample n k s memory) (samples sample n k t memory)
samples_stay_alike n k s t memory alike =
    let one : SamplesResult ChipState = samples sample n k s memory in
    let other : SamplesResult ChipState = samples sample n k t memory in
    let made : MakeAllTheSame n k s t.registers memory = make_all_the_same n k s t.registers memory (differ_of s t alike) in
    let is : other ≡ record one { state = with_registers one.state made.next } = ap (λ (u : ChipState). samples sample n k u memory) alike.rest ∙ made.is in
    record {
      frames = sym (ap (λ (r : SamplesResult ChipState). r.frames) is);
      records = sym (ap (λ (r : SamplesResult ChipState). r.records) is);
      memory = sym (ap (λ (r : SamplesResult ChipState). r.memory) is);
      state = alike_from one.state other.state made.next (ap (λ (r : SamplesResult ChipState). r.state) is) made.differ;
    }
