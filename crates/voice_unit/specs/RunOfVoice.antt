-- A voice over a batch, with what each step gives.
use Rattle.std.specs.Prelude.{◌≡◌, ℕ, ◌<◌, ◌≤◌, List, ℤ, pos, false, map, get_or}
use Rattle.voice_unit.specs.Voice.{VoiceState}
use Rattle.voice_unit.specs.Batch.{Lane, voice_at, answer_at}
use Rattle.voice_unit.specs.declared.interface.VoiceOut.{VoiceOut}
use Rattle.voice_unit.specs.declared.out_row.OutRow.{OutRow}

-- the answer of a voice that isn't heard
abbrev pub silent_answer : VoiceOut
silent_answer = record { out = pos 0; level = 0; envx = 0; outx = 0; block = 0; ended = false; keyed = false }

-- the outputs of a row
abbrev pub outs_of : OutRow → List ℤ
outs_of row = map (λ answer. answer.out) row.items

-- n steps of the voice of a row: the voice after them, and the row of what each of them gives; what stands after it stays
pub record IsRun (lane : Lane) (n : ℕ) (before after : OutRow) (voice : VoiceState) : Type 0 where
  pub voice_is : voice ≡ voice_at lane n
  pub answers_are : (j : ℕ) → j < n → get_or after.items j silent_answer ≡ answer_at lane j
  pub others : (j : ℕ) → n ≤ j → get_or after.items j silent_answer ≡ get_or before.items j silent_answer
