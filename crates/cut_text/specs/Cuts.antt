-- A list of cuts while a text is read: it grows by a cut a line.
use Rattle.std.specs.Prelude.{◌≡◌, ℕ, ◌+◌, ◌≤◌, Bool, List, [], ◌∷◌, length, Option}
use Rattle.num_fix.specs.Limits.{max_frames}
use Rattle.cut_form.specs.declared.cut.Cut.{Cut}
use Rattle.cut_form.specs.TextLines.{line_words}
use Rattle.cut_form.specs.CutList.{max_cuts, cut_of_words, is_allowed, allowed_cut}
use Rattle.cut_form.specs.Slices.{cut_samples}

-- each cut ends within an hour
abbrev pub EndWithinHour : List Cut → Type 0
EndWithinHour [] = Unit {0}
EndWithinHour (cut ∷ cuts) = (cut.start + cut.count ≤ max_frames) × EndWithinHour cuts

-- what a list keeps, with how many frames its cuts have in all
pub record IsListed (cuts : List Cut) (total : ℕ) : Type 0 where
  pub samples : total ≡ cut_samples cuts
  pub few_samples : total ≤ max_frames
  pub few : length cuts ≤ max_cuts
  pub within : EndWithinHour cuts

-- whether a cut may stand after others
abbrev pub fits_after : List Cut → Cut → Bool
fits_after cuts cut = is_allowed (length cuts + 1) (cut_samples cuts) cut

-- the cut of the next line after others
abbrev pub next_cut : List Cut → (line : List ℕ) → Option Cut
next_cut cuts line = allowed_cut (length cuts + 1) (cut_samples cuts) (cut_of_words (line_words line))
