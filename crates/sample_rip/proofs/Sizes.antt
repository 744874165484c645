-- How many samples are encoded again.
use Rattle.std.proofs.Common.{◌≡◌, ◌∙◌, sym, ap, ◌*◌, ◌<◌, ◌≤◌, ℕ, ℤ, List, length, Bool, Ok, arith, refl}
use Rattle.std.specs.Prelude.{◌==◌, nat_lt, false}
use Rattle.std.proofs.lemmas.Bool.Decides.{nat_tests}
use Rattle.brr_encode.specs.Encoding.{encoding, encoded_samples, padded_samples, max_blocks, max_samples}
use Rattle.brr_encode.specs.Report.{reports_of}
use Rattle.brr_encode.specs.declared.report.BlockReport.{BlockReport}
use Rattle.sample_rip.specs.Rip.{rip_samples}
use Rattle.sample_rip.specs.Reencoded.{is_looped, errors_of, rip_report}
use Rattle.sample_rip.specs.declared.reencoding.RipReport.{RipReport}
use Rattle.sample_rip.specs.declared.found.RipFound.{RipFound}
use Rattle.sample_rip.proofs.BlocksInOrder.{length-rip}

pub length-rip_samples : (memory : List ℕ) (found : RipFound) → length (rip_samples memory found) ≡ 16 * found.blocks
unfolding rip_samples
length-rip_samples memory found = length-rip memory found.start found.blocks

encoded_of_size : (samples : List ℤ) (looped : Bool) → 0 < length samples → length samples ≤ max_samples → encoded_samples samples looped ≡ Ok (encoding samples looped)
unfolding encoded_samples
encoded_of_size samples looped some few =
    let not_empty : (length samples == 0) ≡ false = grind (arith, nat_tests, some) in
    let not_long : nat_lt max_samples (length samples) ≡ false = grind (arith, nat_tests, few) in
    rw (not_empty, not_long) refl

-- the samples of a rip can be encoded
pub rip_is_encodable : (memory : List ℕ) (found : RipFound) (looped : Bool) → 0 < found.blocks → found.blocks ≤ max_blocks → encoded_samples (rip_samples memory found) looped ≡ Ok (encoding (rip_samples memory found) looped)
rip_is_encodable memory found looped some few =
    let sized = length-rip_samples memory found in
    encoded_of_size (rip_samples memory found) looped (omega (arith, sized, some)) (omega (arith, sized, few))

same_blocks : (samples : List ℤ) (looped : Bool) (blocks : List ℕ) → encoded_samples samples looped ≡ Ok (encoding samples looped) → encoded_samples samples looped ≡ Ok blocks → blocks ≡ encoding samples looped
same_blocks samples looped blocks is also = cc

-- the errors of its encoding are those of the rip
pub report_is : (memory : List ℕ) (found : RipFound) (samples : List ℤ) (looped : Bool) (blocks : List ℕ) (reports : List BlockReport) (errors : RipReport)
    → 0 < found.blocks → found.blocks ≤ max_blocks → samples ≡ rip_samples memory found → looped ≡ is_looped found.«end» → encoded_samples samples looped ≡ Ok blocks
    → reports ≡ reports_of blocks (padded_samples samples) → errors ≡ errors_of reports → errors ≡ rip_report memory found
unfolding rip_report
report_is memory found samples looped blocks reports errors some few is_samples is_loop encoded are is =
    let encodable = rip_is_encodable memory found looped some few in
    let encoded_rip : encoded_samples (rip_samples memory found) looped ≡ Ok blocks = ap (λ (xs : List ℤ). encoded_samples xs looped) (sym is_samples) ∙ encoded in
    let same : blocks ≡ encoding (rip_samples memory found) looped = same_blocks (rip_samples memory found) looped blocks encodable encoded_rip in
    is ∙ ap errors_of (are ∙ (λ i. reports_of (same i) (padded_samples (is_samples i)))) ∙ ap (λ (b : Bool). errors_of (reports_of (encoding (rip_samples memory found) b) (padded_samples (rip_samples memory found)))) is_loop
