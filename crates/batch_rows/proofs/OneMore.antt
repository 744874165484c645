-- One sample, from where a batch by rows has come.
use Rattle.std.proofs.Common.{◌≡◌, ℕ, zero, suc, ◌+◌, ◌%◌, ◌==◌, List, Bool, true, false, pos, map, slice_index, if◌then◌else◌, refl, ap, ◌∙◌}
use Rattle.rate_clock.specs.Counter.{counter_at}
use Rattle.voice_unit.specs.Voice.{VoiceState}
use Rattle.echo_unit.specs.Echo.{EchoState, next_echo, echo_memory, echo_heard, output_frame}
use Rattle.dsp_state.specs.Registers.{echo_regs}
use Rattle.dsp_state.specs.Mix.{main_frame, sent_frame}
use Rattle.dsp_state.specs.Volumes.{all_volumes}
use Rattle.dsp_state.specs.Results.{without_bits, registers_after}
use Rattle.dsp_state.specs.Sample.{VoiceResult, results_from, records_from, shared_input, after_poll, after_noise, sample, before_voices}
use Rattle.dsp_state.specs.declared.registers.TheConstants.{FLG}
use Rattle.dsp_state.specs.declared.state.ChipState.{ChipState}
use Rattle.dsp_state.proofs.EightVoices.{polled_part}
use Rattle.dsp_state.proofs.Inputs.{SameInputs, registers-before_voices, muted-before_voices}
use Rattle.batch_rows.specs.Rows.{keys_after, with_parts}
use Rattle.batch_rows.proofs.SameInputs.{same_volumes, same_echo_regs}

-- the poll concerns the keys alone
poll_of_parts : (s : ChipState) (k : ℕ) (registers : List ℕ) (voices : List VoiceState) (echo : EchoState)
    → after_poll (with_parts s registers voices echo) k ≡ with_parts (after_poll s k) registers voices echo
unfolding after_poll
poll_of_parts s k registers voices echo = by (k % 2 == 0)
  where
    kon_pending : ℕ
    kon_pending = without_bits s.hidden.kon_pending s.hidden.kon_latched

    whole : ChipState
    whole = with_parts s registers voices echo

    by : (b : Bool) → (if b then record whole { hidden = record whole.hidden { kon_pending = kon_pending; kon_latched = kon_pending } } else whole)
        ≡ with_parts (if b then record s { hidden = record s.hidden { kon_pending = kon_pending; kon_latched = kon_pending } } else s) registers voices echo
    by true = refl
    by false = refl

pub registers-after_poll : (s : ChipState) (k : ℕ) → (after_poll s k).registers ≡ s.registers
unfolding after_noise
registers-after_poll s k = registers-before_voices s k

-- the noise concerns itself and its rate
noise_of_parts : (s : ChipState) (counter : ℕ) (registers : List ℕ) (voices : List VoiceState) (echo : EchoState)
    → slice_index registers FLG ≡ slice_index s.registers FLG
    → after_noise (with_parts s registers voices echo) counter ≡ with_parts (after_noise s counter) registers voices echo
unfolding after_noise
noise_of_parts s counter registers voices echo same = rw same refl

pub before_voices-with_parts : (s : ChipState) (k : ℕ) (registers : List ℕ) (voices : List VoiceState) (echo : EchoState)
    → slice_index registers FLG ≡ slice_index s.registers FLG
    → before_voices (with_parts s registers voices echo) k ≡ with_parts (before_voices s k) registers voices echo
before_voices-with_parts s k registers voices echo same =
    ap (λ (t : ChipState). after_noise t (counter_at k)) (poll_of_parts s k registers voices echo)
    ∙ noise_of_parts (after_poll s k) (counter_at k) registers voices echo (rw (registers-after_poll s k) same)

-- the keys and the noise leave the registers as they were
pub registers-keys_after : (k : ℕ) (s : ChipState) (n : ℕ) → (keys_after k s n).registers ≡ s.registers
unfolding keys_after
registers-keys_after k s zero = refl
registers-keys_after k s (suc n) = registers-before_voices (keys_after k s n) (k + n) ∙ registers-keys_after k s n

-- one sample of a chip with these parts, where its voices give what is written there
pub sample_of_parts : (now : ChipState) (k : ℕ) (first registers : List ℕ) (voices : List VoiceState) (echo : EchoState) (memory : List ℕ) (results : List VoiceResult) (muted : ℕ)
    → now.muted ≡ muted → SameInputs registers first → slice_index registers FLG ≡ slice_index now.registers FLG
    → results_from (shared_input (before_voices (with_parts now registers voices echo) k) memory k) 0 (pos 0) voices ≡ results
    → sample k (with_parts now registers voices echo) memory ≡ record {
      state = with_parts (before_voices now k) (registers_after (map (λ (result : VoiceResult). result.answer) results) registers) (map (λ (result : VoiceResult). result.voice) results)
          (next_echo echo (echo_regs first) memory);
      memory = echo_memory echo (echo_regs first) memory (sent_frame (all_volumes first muted) (map (λ (result : VoiceResult). result.answer) results));
      frame = output_frame (echo_regs first) (main_frame (all_volumes first muted) (map (λ (result : VoiceResult). result.answer) results)) (echo_heard echo (echo_regs first) memory);
      records = records_from k 0 (map (λ (result : VoiceResult). result.answer) results);
    }
unfolding sample
sample_of_parts now k first registers voices echo memory results muted is same flg gives =
    let parts : before_voices (with_parts now registers voices echo) k ≡ with_parts (before_voices now k) registers voices echo = before_voices-with_parts now k registers voices echo flg in
    let there : results_from (shared_input (with_parts (before_voices now k) registers voices echo) memory k) 0 (pos 0) voices ≡ results = rw parts at gives in
    let silent : (before_voices now k).muted ≡ muted = muted-before_voices now k ∙ is in
    rw (
      parts,
      there,
      same_echo_regs registers first same,
      silent,
      same_volumes registers first same muted,
    ) refl

-- nor do they change the table
table-before_voices : (s : ChipState) (k : ℕ) → (before_voices s k).table ≡ s.table
unfolding after_poll after_noise
table-before_voices s k = polled_part (λ (t : ChipState). t.table) (k % 2 == 0) s (without_bits s.hidden.kon_pending s.hidden.kon_latched) refl

pub table-keys_after : (k : ℕ) (s : ChipState) (n : ℕ) → (keys_after k s n).table ≡ s.table
unfolding keys_after
table-keys_after k s zero = refl
table-keys_after k s (suc n) = table-before_voices (keys_after k s n) (k + n) ∙ table-keys_after k s n

-- nor the muted voices
pub muted-keys_after : (k : ℕ) (s : ChipState) (n : ℕ) → (keys_after k s n).muted ≡ s.muted
unfolding keys_after
muted-keys_after k s zero = refl
muted-keys_after k s (suc n) = muted-before_voices (keys_after k s n) (k + n) ∙ muted-keys_after k s n
