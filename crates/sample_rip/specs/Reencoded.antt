-- What a sample comes to when it is encoded again: the greatest and the summed errors of its blocks.
use Rattle.std.specs.Prelude.{ℕ, ◌+◌, List, max, fold, Bool, true, false, ℤ}
use Rattle.brr_encode.specs.Encoding.{encoding, padded_samples}
use Rattle.brr_encode.specs.Report.{reports_of}
use Rattle.brr_encode.specs.declared.report.BlockReport.{BlockReport}
use Rattle.sample_rip.specs.Rip.{rip_samples}
use Rattle.sample_rip.specs.declared.found.RipFound.{RipFound}
use Rattle.sample_rip.specs.declared.found.RipEnd.{RipEnd}
use Rattle.sample_rip.specs.declared.found.RipEnd.TheVariants.{NoLoop, Loop, Outside, Open}
use Rattle.sample_rip.specs.declared.reencoding.RipReport.{RipReport}

-- a sample with this end is encoded with a loop
abbrev pub is_looped : RipEnd → Bool
is_looped NoLoop = false
is_looped (Loop sample) = true
is_looped Outside = true
is_looped Open = false

abbrev pub no_errors : RipReport
no_errors = record { worst = 0; squares = 0 }

-- the errors with those of one block more
abbrev pub with_block : RipReport → BlockReport → RipReport
with_block report block = record { worst = max report.worst block.worst; squares = report.squares + block.squares }

-- the errors of all blocks
abbrev pub errors_of : List BlockReport → RipReport
errors_of blocks = fold with_block no_errors blocks

-- the errors of samples that are encoded again
abbrev pub errors_of_samples : (samples : List ℤ) → (looped : Bool) → RipReport
errors_of_samples samples looped = errors_of (reports_of (encoding samples looped) (padded_samples samples))

unfoldable pub rip_report : (memory : List ℕ) → RipFound → RipReport
rip_report memory found = errors_of_samples (rip_samples memory found) (is_looped found.«end»)
