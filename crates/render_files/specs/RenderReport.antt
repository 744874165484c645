-- What a render reports: its samples, and how often the chip ran for them, and why.
use Rattle.std.specs.Prelude.{ℕ, List, ◌++◌, codes, decimal}
use Rattle.lock_step.specs.declared.counts.Counts.{Counts}

-- the most bytes that the line of the batches takes
abbrev pub longest_batch_line : ℕ
longest_batch_line = 200

-- and the whole report
abbrev pub longest_sound_report : ℕ
longest_sound_report = 250

abbrev pub batch_line : Counts → List ℕ
batch_line counts =
    codes "batches " ++ decimal counts.batches ++ codes " register " ++ decimal counts.register ++ codes " memory " ++ decimal counts.memory
    ++ codes " echo " ++ decimal counts.echo ++ codes " full " ++ decimal counts.full ++ codes " events " ++ decimal counts.events
    ++ codes " end " ++ decimal counts.«end» ++ codes "\n"

abbrev pub sound_report : (samples : ℕ) → Counts → List ℕ
sound_report samples counts = codes "samples " ++ decimal samples ++ codes "\n" ++ batch_line counts
