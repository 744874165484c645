-- Where all voices are sent to the echo at their own volumes, the main sums are those of what they send.
use Rattle.std.proofs.Common.{◌≡◌, ℕ, List, [], ◌∷◌, ℤ, pos, map, get_or, length, refl, ap, sym, ◌∙◌}
use Rattle.std.specs.List.{range_with_len}
use Rattle.num_fix.specs.Arithmetic.{scaled}
use Rattle.num_fix.proofs.Entries.{drop-entries}
use Rattle.voice_unit.specs.Voice.{VoiceState}
use Rattle.voice_unit.specs.declared.interface.VoiceOut.{VoiceOut}
use Rattle.echo_unit.specs.declared.rows.SumRows.{SumRows}
use Rattle.dsp_state.specs.Mix.{shares_at, clamped_sum}
use Rattle.dsp_state.specs.Sample.{SharedInput}
use Rattle.dsp_state.specs.declared.volumes.Volumes.{Volumes}
use Rattle.batch_rows.specs.PlayedBatch.{IsPlayedBatch, answers_from, sum_of}
use Rattle.batch_rows.specs.Sent.{AreAllSent, sent_whole, unsent}

-- the volumes of eight voices that aren't sent, one by one
pub eight_unsent : (volumes : List Volumes) (d : Volumes) → length volumes ≡ 8 → map unsent volumes ≡ map unsent (map (λ j. get_or volumes j d) (range_with_len 0 8))
eight_unsent volumes d eight = ap (map unsent) (drop-entries 8 0 volumes d (sym eight))

-- shares at volumes that are made of others
shares_at-map : (volume : Volumes → ℤ) (made : Volumes → Volumes) (volumes : List Volumes) (answers : List VoiceOut)
    → shares_at volume (map made volumes) answers ≡ shares_at (λ one. volume (made one)) volumes answers
shares_at-map volume made [] answers = refl
shares_at-map volume made (one ∷ volumes) [] = refl
shares_at-map volume made (one ∷ volumes) (answer ∷ answers) = ap (λ (rest : List ℤ). scaled answer.out (volume (made one)) 7 ∷ rest) (shares_at-map volume made volumes answers)

-- a sum at such volumes
sum_of-map : (volume : Volumes → ℤ) (made : Volumes → Volumes) (volumes : List Volumes) (answers : List VoiceOut)
    → sum_of volume (map made volumes) answers ≡ sum_of (λ one. volume (made one)) volumes answers
sum_of-map volume made volumes answers = ap (λ (shares : List ℤ). clamped_sum (pos 0) shares) (shares_at-map volume made volumes answers)

-- what voices send that are sent whole
sum_of-sent : (sent own : Volumes → ℤ) (volumes : List Volumes) (answers : List VoiceOut) → AreAllSent volumes
    → ((one : Volumes) → sent (sent_whole one) ≡ own one) → ((vs : List Volumes) → sum_of (λ one. sent (sent_whole one)) vs answers ≡ sum_of own vs answers)
    → sum_of own volumes answers ≡ sum_of sent volumes answers
sum_of-sent sent own volumes answers all is same =
    sym (same volumes) ∙ (sym (sum_of-map sent sent_whole volumes answers) ∙ ap (λ (vs : List Volumes). sum_of sent vs answers) all)

pub all_sent_batch : (shared : ℕ → SharedInput) (n : ℕ) (volumes : List Volumes) (before voices : List VoiceState) (last : List VoiceOut) (ends : List ℕ) (sums : SumRows)
    → AreAllSent volumes → IsPlayedBatch shared n (map unsent volumes) before voices last ends sums
    → IsPlayedBatch shared n volumes before voices last ends record sums { sent_left = sums.main_left; sent_right = sums.main_right }
all_sent_batch shared n volumes before voices last ends sums all played =
    let answers : ℕ → List VoiceOut = answers_from shared 0 (λ j. pos 0) before in
    record {
      voices_are = played.voices_are;
      last_is = played.last_is;
      ends_are = played.ends_are;
      main_left = λ j few. played.main_left j few ∙ sum_of-map (λ one. one.left) unsent volumes (answers j);
      main_right = λ j few. played.main_right j few ∙ sum_of-map (λ one. one.right) unsent volumes (answers j);
      sent_left = λ j few. played.main_left j few ∙ (sum_of-map (λ one. one.left) unsent volumes (answers j)
          ∙ sum_of-sent (λ one. one.sent_left) (λ one. one.left) volumes (answers j) all (λ one. refl) (λ vs. refl));
      sent_right = λ j few. played.main_right j few ∙ (sum_of-map (λ one. one.right) unsent volumes (answers j)
          ∙ sum_of-sent (λ one. one.sent_right) (λ one. one.right) volumes (answers j) all (λ one. refl) (λ vs. refl));
    }
