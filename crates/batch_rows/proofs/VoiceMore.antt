-- One voice more of a batch, over any row of its outputs.
use Rattle.std.proofs.Common.{◌≡◌, ℕ, ◌+◌, ◌<◌, List, ◌∷◌, ◌++◌, ℤ, pos, map, length, take, drop, get_or, slice_set, ap, ◌∙◌, append_assoc, arith}
use Rattle.std.proofs.lemmas.List.{drop_more, take_more_set, drop-set-lt}
use Rattle.num_fix.specs.SignedWords.{number_at}
use Rattle.voice_unit.specs.Voice.{VoiceState}
use Rattle.dsp_state.specs.Sample.{SharedInput, VoiceResult}
use Rattle.batch_rows.specs.Lane.{voice_after, lane, outs, voices_after}
use Rattle.batch_rows.specs.PlayedBatch.{answers_from}
use Rattle.batch_rows.proofs.Lanes.{lanes-rows, voices_after-rows}

-- voices before which the same outputs stand give the same
pub answers_from-rows : (shared : ℕ → SharedInput) (v : ℕ) (previous other : ℕ → ℤ) (voices : List VoiceState) (n j : ℕ) → j < n
    → ((j : ℕ) → j < n → previous j ≡ other j) → answers_from shared v previous voices j ≡ answers_from shared v other voices j
answers_from-rows shared v previous other voices n j few same =
    ap (λ (results : List VoiceResult). map (λ (result : VoiceResult). result.answer) results) (lanes-rows shared v previous other voices n j few same)

module _ (shared : ℕ → SharedInput) (n v : ℕ) (previous : List ℤ) (voices : List VoiceState) (within : v < length voices) (d now : VoiceState) (row : List ℤ)
    (row_is : (j : ℕ) → j < n → number_at row j ≡ outs shared v (number_at previous) (get_or voices v d) j) where
  split : drop v voices ≡ get_or voices v d ∷ drop (v + 1) voices
  split = drop_more voices v d within

  kept : drop (v + 1) (slice_set voices v now) ≡ drop (v + 1) voices
  kept = drop-set-lt (v + 1) voices v now (omega arith)

  -- the answers of the voices that remain
  pub rest_same : (j : ℕ) → j < n → answers_from shared (v + 1) (number_at row) (drop (v + 1) (slice_set voices v now)) j
      ≡ answers_from shared (v + 1) (outs shared v (number_at previous) (get_or voices v d)) (drop (v + 1) voices) j
  rest_same j few =
      ap (λ (vs : List VoiceState). answers_from shared (v + 1) (number_at row) vs j) kept
      ∙ answers_from-rows shared (v + 1) (number_at row) (outs shared v (number_at previous) (get_or voices v d)) (drop (v + 1) voices) n j few row_is

  -- the answer of this one, and theirs
  pub opened : (j : ℕ) → answers_from shared v (number_at previous) (drop v voices) j
      ≡ (lane shared v (number_at previous) (get_or voices v d) j).answer ∷ answers_from shared (v + 1) (outs shared v (number_at previous) (get_or voices v d)) (drop (v + 1) voices) j
  opened j = ap (λ (vs : List VoiceState). answers_from shared v (number_at previous) vs j) split

  -- the voices
  pub voices_more : (before : List VoiceState) → now ≡ voice_after shared v (number_at previous) (get_or voices v d) n
      → voices_after shared 0 (λ j. pos 0) before n ≡ take v voices ++ voices_after shared v (number_at previous) (drop v voices) n
      → voices_after shared 0 (λ j. pos 0) before n ≡ take (v + 1) (slice_set voices v now) ++ voices_after shared (v + 1) (number_at row) (drop (v + 1) (slice_set voices v now)) n
  voices_more before voice_is is =
      rw (
        take_more_set voices v now within,
        kept,
        append_assoc,
        voice_is,
        voices_after-rows shared (v + 1) (number_at row) (outs shared v (number_at previous) (get_or voices v d)) (drop (v + 1) voices) n row_is,
      )
      (rw split at is)
