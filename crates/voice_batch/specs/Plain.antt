-- A sample in which nothing but its blocks, its registers and the voice before shows what a voice plays.
use Rattle.std.specs.Prelude.{◌≡◌, ℕ, ◌<◌, ◌≤◌, ◌⊎◌, false, slice_index}
use Rattle.num_fix.specs.Arithmetic.{has_bit}
use Rattle.voice_unit.specs.Voice.{is_keyed, is_modulated}
use Rattle.voice_unit.specs.declared.batch.VoiceView.{VoiceView}
use Rattle.voice_unit.specs.declared.all_voices.BatchRows.{BatchRows}
use Rattle.voice_unit.specs.declared.interface.VoiceIn.{VoiceIn}
use Rattle.voice_batch.specs.declared.plain.PlainSamples.{PlainSamples}

-- in sample j of a batch no key on of a voice is latched
abbrev pub IsPlain : (own : VoiceView) → (rows : BatchRows) → (j : ℕ) → Type 0
IsPlain own rows j = has_bit (slice_index rows.kon j) own.voice ≡ false

-- sample j is one of those that are known to be plain
abbrev pub IsKnownPlain : PlainSamples → (j : ℕ) → Type 0
IsKnownPlain known j = (j < known.before) ⊎ (known.from ≤ j)

-- The voice of a row isn't keyed; what it reads of the registers that all voices share is the row's.
pub record PlaysPlainly (own : VoiceView) (i : VoiceIn) : Type 0 where
  pub dir : i.dir ≡ own.dir
  pub reset : i.reset ≡ own.reset
  pub koff : i.koff ≡ has_bit own.koff own.voice
  pub unkeyed : is_keyed i ≡ false
  pub modulated : i.modulated ≡ is_modulated own.pmon own.voice
  pub noisy : i.noisy ≡ has_bit own.non own.voice
