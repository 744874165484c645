-- A list of cuts that grows by the cut of a line.
use Rattle.std.proofs.Common.{◌≡◌, ℕ, ◌+◌, ◌≤◌, List, [], ◌∷◌, ◌++◌, length, refl, ap, sym, ◌∙◌, arith}
use Rattle.std.specs.Prelude.{◌==◌, true, Option, Some, None, Result}
use Rattle.std.specs.List.{slice_split}
use Rattle.std.proofs.lemmas.Grind.{common_steps}
use Rattle.std.proofs.lemmas.List.Sums.{sum_by_push}
use Rattle.std.proofs.lemmas.List.{length_push}
use Rattle.num_fix.specs.Limits.{max_frames}
use Rattle.cut_form.specs.declared.cut.Cut.{Cut}
use Rattle.cut_form.specs.TextLines.{line_words, said_before}
use Rattle.cut_form.specs.CutList.{max_cuts, cut_of_words, cuts_from}
use Rattle.cut_form.specs.Slices.{cut_samples}
use Rattle.text_form.specs.Parts.{parts_left}
use Rattle.cut_text.specs.Cuts.{EndWithinHour, IsListed, fits_after, next_cut}
use Rattle.cut_text.proofs.Growing.{IsReader}
use Rattle.cut_text.proofs.ThirdWord.{third_word}

-- the cuts of the lines after cuts
abbrev pub cuts_after : List Cut → (lines : List (List ℕ)) → Result (List Cut) ℕ
cuts_after cuts lines = cuts_from (length cuts + 1) (cut_samples cuts) lines

samples_more : (cuts : List Cut) (cut : Cut) → cut_samples (cuts ++ cut ∷ []) ≡ cut_samples cuts + cut.count
samples_more cuts cut = sum_by_push (λ (c : Cut). c.count) cuts cut

pub cuts_reader : IsReader cuts_after next_cut
cuts_reader = record { goes_on = goes_on; stops = λ old line lines is. rw (is, cuts_from) refl }
  where
    goes_on : (old : List Cut) (line : List ℕ) (lines : List (List ℕ)) (cut : Cut) → next_cut old line ≡ Some cut → cuts_after old (line ∷ lines) ≡ said_before cut (cuts_after (old ++ cut ∷ []) lines)
    goes_on old line lines cut is = rw (is, cuts_from, length_push old cut, samples_more old cut) refl

within_more : (cuts : List Cut) (cut : Cut) → EndWithinHour cuts → cut.start + cut.count ≤ max_frames → EndWithinHour (cuts ++ cut ∷ [])
within_more [] cut within here = (here, tt)
within_more (first ∷ cuts) cut within here = (within.0, within_more cuts cut within.1 here)

fits_end : (cuts : List Cut) (cut : Cut) → fits_after cuts cut ≡ true → cut.start + cut.count ≤ max_frames
fits_end cuts cut fits = grind (arith, common_steps)

fits_together : (cuts : List Cut) (cut : Cut) → fits_after cuts cut ≡ true → cut_samples cuts + cut.count ≤ max_frames
fits_together cuts cut fits = grind (arith, common_steps)

fits_in_number : (cuts : List Cut) (cut : Cut) → fits_after cuts cut ≡ true → length cuts + 1 ≤ max_cuts
fits_in_number cuts cut fits = grind (arith, common_steps)

listed_pushed : (cuts : List Cut) (total : ℕ) (cut : Cut) → IsListed cuts total → fits_after cuts cut ≡ true → IsListed (cuts ++ cut ∷ []) (total + cut.count)
listed_pushed cuts total cut listed fits = record {
  samples = ap (λ (n : ℕ). n + cut.count) listed.samples ∙ sym (samples_more cuts cut);
  few_samples = omega (arith, listed.samples, fits_together cuts cut fits);
  few = omega (arith, fits_in_number cuts cut fits, length_push cuts cut);
  within = within_more cuts cut listed.within (fits_end cuts cut fits);
}

pub listed_more : (old new : List Cut) (total : ℕ) (cut : Cut) → IsListed old total → new ≡ old ++ cut ∷ [] → fits_after old cut ≡ true → IsListed new (total + cut.count)
listed_more old new total cut listed grown fits = rw grown (listed_pushed old total cut listed fits)

-- a line of more than two words
pub no_cut : (line start rest count after : List ℕ) (one two : Option (List ℕ)) → slice_split (λ character. character == 32) line ≡ start ∷ parts_left 32 one → one ≡ Some rest →
    slice_split (λ character. character == 32) rest ≡ count ∷ parts_left 32 two → two ≡ Some after → None ≡ cut_of_words (line_words line)
no_cut line start rest count after one two first one-is second two-is =
    third_word cut_of_words (λ name word third more. refl) start rest count after two second two-is
    ∙ sym (ap cut_of_words (first ∙ ap (λ (r : Option (List ℕ)). start ∷ parts_left 32 r) one-is))
