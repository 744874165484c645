-- Voices that are traced: bit v of a mask lets a run emit the records of voice v.
use Rattle.std.specs.Prelude.{◌≡◌, ℕ, ℤ, List}
use Rattle.tune_opening.specs.Tune.{tune_frames}

-- a tune gives the same frames whichever voices are traced
abbrev pub TracingIsNotHeard : Type 0
TracingIsNotHeard =
    (file : List ℕ) (table : List ℤ) (muted mask other samples : ℕ)
    → tune_frames file table muted mask samples ≡ tune_frames file table muted other samples
