-- The voices of a batch, one more of them played.
use Rattle.std.proofs.Common.{◌≡◌, ℕ, ◌+◌, ◌-◌, ◌^◌, ◌<◌, List, [], ◌∷◌, ◌++◌, ℤ, pos, ◌+ℤ◌, length, take, drop, get_or, slice_index, slice_set, if◌then◌else◌, refl, ap, sym, ◌∙◌, append_assoc, arith}
use Rattle.std.proofs.lemmas.List.{drop_more, take_more_set, drop_all, take_all, append-nil}
use Rattle.num_fix.specs.Arithmetic.{clamp16, scaled}
use Rattle.num_fix.specs.SignedWords.{number_at}
use Rattle.voice_unit.specs.Voice.{VoiceState}
use Rattle.voice_unit.specs.declared.interface.VoiceOut.{VoiceOut}
use Rattle.echo_unit.specs.declared.rows.SumRows.{SumRows}
use Rattle.dsp_state.specs.Mix.{shares_at, clamped_sum}
use Rattle.dsp_state.specs.Results.{bits_from}
use Rattle.dsp_state.specs.Sample.{SharedInput}
use Rattle.dsp_state.specs.declared.volumes.Volumes.{Volumes}
use Rattle.batch_rows.specs.Lane.{lane, outs, voices_after}
use Rattle.batch_rows.specs.PlayedBatch.{answers_from, sum_of, IsPlayedBatch}
use Rattle.batch_rows.specs.PlayedLane.{LaneMade, IsPlayedLane}
use Rattle.batch_rows.proofs.Lanes.{voices_after-rows}
use Rattle.batch_rows.proofs.VoiceMore.{answers_from-rows, rest_same, opened}

-- a sum of each sample, with what remains to be added to it
abbrev pub SumRemains : (shared : ℕ → SharedInput) → (n : ℕ) → (volume : Volumes → ℤ) → List Volumes → (before : List VoiceState) → (v : ℕ) → (previous : List ℤ) → (voices : List VoiceState) → (sums : List ℤ) → Type 0
SumRemains shared n volume volumes before v previous voices sums =
    (j : ℕ) → j < n → sum_of volume volumes (answers_from shared 0 (λ j. pos 0) before j)
    ≡ clamped_sum (number_at sums j) (shares_at volume (drop v volumes) (answers_from shared v (number_at previous) (drop v voices) j))

-- what is done of a batch when the voices from v on remain
pub record Remains (shared : ℕ → SharedInput) (n : ℕ) (volumes : List Volumes) (before : List VoiceState) (v : ℕ) (previous : List ℤ) (voices : List VoiceState) (answers : List VoiceOut) (ends : List ℕ) (sums : SumRows) : Type 0 where
  pub voices_are : voices_after shared 0 (λ j. pos 0) before n ≡ take v voices ++ voices_after shared v (number_at previous) (drop v voices) n
  pub last_is : answers_from shared 0 (λ j. pos 0) before (n - 1) ≡ take v answers ++ answers_from shared v (number_at previous) (drop v voices) (n - 1)
  pub ends_are : (j : ℕ) → j < n → bits_from (λ answer. answer.ended) 0 (answers_from shared 0 (λ j. pos 0) before j)
      ≡ slice_index ends j + bits_from (λ answer. answer.ended) v (answers_from shared v (number_at previous) (drop v voices) j)
  pub main_left : SumRemains shared n (λ one. one.left) volumes before v previous voices sums.main_left
  pub main_right : SumRemains shared n (λ one. one.right) volumes before v previous voices sums.main_right
  pub sent_left : SumRemains shared n (λ one. one.sent_left) volumes before v previous voices sums.sent_left
  pub sent_right : SumRemains shared n (λ one. one.sent_right) volumes before v previous voices sums.sent_right

module _ (shared : ℕ → SharedInput) (n : ℕ) (volumes : List Volumes) (before : List VoiceState) where
  -- one voice more
  module _ (v : ℕ) (previous : List ℤ) (voices : List VoiceState) (within : v < length voices) (d : VoiceState) (ends : List ℕ) (made : LaneMade)
      (played : IsPlayedLane shared v n (number_at previous) (get_or voices v d) ends made) where
    pub last_more : (answers : List VoiceOut) → v < length answers → 0 < n
        → answers_from shared 0 (λ j. pos 0) before (n - 1) ≡ take v answers ++ answers_from shared v (number_at previous) (drop v voices) (n - 1)
        → answers_from shared 0 (λ j. pos 0) before (n - 1) ≡ take (v + 1) (slice_set answers v made.last) ++ answers_from shared (v + 1) (number_at made.row) (drop (v + 1) (slice_set voices v made.voice)) (n - 1)
    last_more answers long some is =
        let rest = rest_same shared n v previous voices within d made.voice made.row played.row_is (n - 1) (omega (arith, some)) in
        let these = opened shared n v previous voices within d made.voice made.row played.row_is (n - 1) in
        rw (take_more_set answers v made.last long, append_assoc, rest, played.last_is) (is ∙ ap (λ (rest : List VoiceOut). take v answers ++ rest) these)

    pub ends_more : (j : ℕ) → j < n
        → bits_from (λ answer. answer.ended) 0 (answers_from shared 0 (λ j. pos 0) before j) ≡ slice_index ends j + bits_from (λ answer. answer.ended) v (answers_from shared v (number_at previous) (drop v voices) j)
        → bits_from (λ answer. answer.ended) 0 (answers_from shared 0 (λ j. pos 0) before j)
        ≡ slice_index made.ends j + bits_from (λ answer. answer.ended) (v + 1) (answers_from shared (v + 1) (number_at made.row) (drop (v + 1) (slice_set voices v made.voice)) j)
    ends_more j few is =
        let these = opened shared n v previous voices within d made.voice made.row played.row_is j in
        let there = is ∙ ap (λ (answers : List VoiceOut). slice_index ends j + bits_from (λ answer. answer.ended) v answers) these in
        let bit : ℕ = if (lane shared v (number_at previous) (get_or voices v d) j).answer.ended then 2 ^ v else 0 in
        let rest : ℕ = bits_from (λ answer. answer.ended) (v + 1) (answers_from shared (v + 1) (outs shared v (number_at previous) (get_or voices v d)) (drop (v + 1) voices) j) in
        let regroup : slice_index ends j + (bit + rest) ≡ slice_index ends j + bit + rest = omega arith in
        rw (rest_same shared n v previous voices within d made.voice made.row played.row_is j few, played.ends_are j few) (there ∙ regroup)

    pub sum_more : (volume : Volumes → ℤ) (one : Volumes) (sums sums_now : List ℤ) → v < length volumes
        → ((j : ℕ) → j < n → number_at sums_now j ≡ clamp16 (number_at sums j +ℤ scaled (number_at made.row j) (volume (get_or volumes v one)) 7))
        → SumRemains shared n volume volumes before v previous voices sums
        → SumRemains shared n volume volumes before (v + 1) made.row (slice_set voices v made.voice) sums_now
    sum_more volume one sums sums_now long added is j few =
        let opened_volumes : drop v volumes ≡ get_or volumes v one ∷ drop (v + 1) volumes = drop_more volumes v one long in
        let there = is j few
        ∙ ap (λ (answers : List VoiceOut). clamped_sum (number_at sums j) (shares_at volume (drop v volumes) answers)) (opened shared n v previous voices within d made.voice made.row played.row_is j)
        ∙ ap (λ (vols : List Volumes). clamped_sum (number_at sums j) (shares_at volume vols ((lane shared v (number_at previous) (get_or voices v d) j).answer
        ∷ answers_from shared (v + 1) (outs shared v (number_at previous) (get_or voices v d)) (drop (v + 1) voices) j))) opened_volumes in
        rw (rest_same shared n v previous voices within d made.voice made.row played.row_is j few, added j few, played.row_is j few) there

  -- none of eight voices remains
  pub all_played : (previous : List ℤ) (voices : List VoiceState) (answers : List VoiceOut) (ends : List ℕ) (sums : SumRows)
      → length voices ≡ 8 → length answers ≡ 8 → Remains shared n volumes before 8 previous voices answers ends sums
      → IsPlayedBatch shared n volumes before voices answers ends sums
  all_played previous voices answers ends sums eight eight_answers done =
      let none : drop 8 voices ≡ [] = drop_all 8 voices (omega (arith, eight)) in
      let all : take 8 voices ≡ voices = take_all 8 voices (omega (arith, eight)) in
      let all_answers : take 8 answers ≡ answers = take_all 8 answers (omega (arith, eight_answers)) in
      record {
        voices_are = sym (rw (none, all, append-nil) at done.voices_are);
        last_is = sym (rw (none, all_answers, append-nil) at done.last_is);
        ends_are = λ j few. sym (rw none at (done.ends_are j few) ∙ omega arith);
        main_left = λ j few. sym (rw none at (done.main_left j few) ∙ ended (λ one. one.left) (number_at sums.main_left j) (drop 8 volumes));
        main_right = λ j few. sym (rw none at (done.main_right j few) ∙ ended (λ one. one.right) (number_at sums.main_right j) (drop 8 volumes));
        sent_left = λ j few. sym (rw none at (done.sent_left j few) ∙ ended (λ one. one.sent_left) (number_at sums.sent_left j) (drop 8 volumes));
        sent_right = λ j few. sym (rw none at (done.sent_right j few) ∙ ended (λ one. one.sent_right) (number_at sums.sent_right j) (drop 8 volumes));
      }
    where
      ended : (volume : Volumes → ℤ) (sum : ℤ) (vols : List Volumes) → clamped_sum sum (shares_at volume vols []) ≡ sum
      ended volume sum [] = refl
      ended volume sum (one ∷ vols) = refl

  -- all of them remain
  pub none_played : (previous : List ℤ) (answers : List VoiceOut) (ends : List ℕ) (sums : SumRows)
      → ((j : ℕ) → j < n → pos 0 ≡ number_at previous j) → ((j : ℕ) → j < n → slice_index ends j ≡ 0)
      → ((j : ℕ) → j < n → number_at sums.main_left j ≡ pos 0) → ((j : ℕ) → j < n → number_at sums.main_right j ≡ pos 0)
      → ((j : ℕ) → j < n → number_at sums.sent_left j ≡ pos 0) → ((j : ℕ) → j < n → number_at sums.sent_right j ≡ pos 0)
      → 0 < n → Remains shared n volumes before 0 previous before answers ends sums
  none_played previous answers ends sums quiet none ml mr sl sr some = record {
    voices_are = voices_after-rows shared 0 (λ j. pos 0) (number_at previous) before n quiet;
    last_is = same (n - 1) (omega (arith, some));
    ends_are = λ j few. rw (same j few, none j few) (omega arith);
    main_left = λ j few. rw (same j few, ml j few) refl;
    main_right = λ j few. rw (same j few, mr j few) refl;
    sent_left = λ j few. rw (same j few, sl j few) refl;
    sent_right = λ j few. rw (same j few, sr j few) refl;
  }
    where
      same : (j : ℕ) → j < n → answers_from shared 0 (λ j. pos 0) before j ≡ answers_from shared 0 (number_at previous) before j
      same j few = answers_from-rows shared 0 (λ j. pos 0) (number_at previous) before n j few quiet
