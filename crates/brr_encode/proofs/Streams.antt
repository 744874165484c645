-- The blocks of an encoding, one by one and decoded, and their reports.
use Rattle.std.proofs.Common.{◌≡◌, ℕ, zero, suc, ◌+◌, ◌*◌, ◌/◌, ◌%◌, ◌<◌, Bool, true, false, ◌==◌, ℤ, pos, List, [], ◌∷◌, ◌++◌, length, take, drop, refl, sym, ap, ◌∙◌, arith, append_assoc, length-append, add-one}
use Rattle.std.proofs.lemmas.List.{length-take-le, length-drop, take_at, drop_at}
use Rattle.num_fix.specs.SignedWords.{number_at}
use Rattle.brr_decode.specs.Kept.{Digit, kept_sample, digits_of, digits_under, samples_of}
use Rattle.brr_decode.proofs.Samples.{kept_after, length-kept_after, samples_of-is}
use Rattle.brr_encode.specs.Greedy.{nearest_sample, greedy_digits, greedy_samples, squares}
use Rattle.brr_encode.specs.Encoding.{header_at, best_header, end_bits, digit_bytes, block_of, block_samples, blocks_of, padded_samples, stands_alone, encoding_from}
use Rattle.brr_encode.specs.Report.{worst, reports_from, reports_of}
use Rattle.brr_encode.specs.EncoderParts.{after_targets, coder_after, block_report, block_reports, all_reports}
use Rattle.brr_encode.specs.declared.block.Coder.{Coder}
use Rattle.brr_encode.specs.declared.report.BlockReport.{BlockReport}
use Rattle.brr_encode.proofs.Coders.{after_sixteen}
use Rattle.brr_encode.proofs.Digits.{decoded_digits, digits_of-block}

-- once a block is coded: how many blocks there are with those of the tail, and the last two samples that it keeps
record IsCoded (first : Bool) (p1 p2 : ℤ) (rest tail : List ℤ) (new : Coder) : Type 0 where
  count : length rest / 16 ≡ suc (length tail / 16)
  last : new.last ≡ number_at (block_samples first p1 p2 (take 16 rest)) 15
  before : new.before ≡ number_at (block_samples first p1 p2 (take 16 rest)) 14

block_is_coded : (first : Bool) (p1 p2 : ℤ) (rest block tail : List ℤ) (new : Coder) → block ≡ take 16 rest → length tail + 16 ≡ length rest
    → new ≡ after_targets (best_header first p1 p2 block) (coder_after p1 p2) block → IsCoded first p1 p2 rest tail new
block_is_coded first p1 p2 rest block tail new is_block sized new_is =
    let sixteen : length block ≡ 16 = ap (λ (l : List ℤ). length l) is_block ∙ length-take-le 16 rest (omega (arith, sized)) in
    let kept = after_sixteen (best_header first p1 p2 block) p1 p2 block sixteen in
    record {
      count = omega (arith, sized);
      last = ap (λ (c : Coder). c.last) new_is ∙ kept.0 ∙ ap (λ (l : List ℤ). number_at (block_samples first p1 p2 l) 15) is_block;
      before = ap (λ (c : Coder). c.before) new_is ∙ kept.1 ∙ ap (λ (l : List ℤ). number_at (block_samples first p1 p2 l) 14) is_block;
    }

-- one block more, and the blocks after it
pub blocks_next : (items : List ℕ) (index loop_block : ℕ) (first last looped : Bool) (p1 p2 : ℤ) (rest block tail : List ℤ) (new : Coder) (whole : List ℕ)
    → block ≡ take 16 rest → tail ≡ drop 16 rest → length tail + 16 ≡ length rest → first ≡ stands_alone index loop_block → last ≡ (length tail / 16 == 0)
    → new ≡ after_targets (best_header first p1 p2 block) (coder_after p1 p2) block
    → items ++ blocks_of (length rest / 16) index loop_block looped p1 p2 rest ≡ whole
    → (items ++ block_of first last looped p1 p2 block) ++ blocks_of (length tail / 16) (index + 1) loop_block looped new.last new.before tail ≡ whole
blocks_next items index loop_block first last looped p1 p2 rest block tail new whole is_block is_tail sized first_is last_is new_is all =
    let coded = block_is_coded first p1 p2 rest block tail new is_block sized new_is in
    ap (λ (n : ℕ). (items ++ block_of first last looped p1 p2 block) ++ blocks_of (length tail / 16) n loop_block looped new.last new.before tail) (add-one index)
    ∙ append_assoc items _ _
    ∙ (λ i. items ++ (block_of (first_is i) (last_is i) looped p1 p2 (is_block i) ++ blocks_of (length tail / 16) (suc index) loop_block looped (coded.last i) (coded.before i) (is_tail i)))
    ∙ (λ i. items ++ (block_of (stands_alone index loop_block) (length tail / 16 == 0) looped p1 p2 (take 16 rest) ++ blocks_of (length tail / 16) (suc index) loop_block looped (number_at (block_samples (first_is i) p1 p2 (take 16 rest)) 15) (number_at (block_samples (first_is i) p1 p2 (take 16 rest)) 14) (drop 16 rest)))
    ∙ ap (λ (n : ℕ). items ++ blocks_of n index loop_block looped p1 p2 rest) (sym coded.count) ∙ all

pub reports_next : (items : List BlockReport) (index loop_block : ℕ) (first last looped : Bool) (p1 p2 : ℤ) (rest block tail : List ℤ) (new : Coder) (whole : List BlockReport)
    → block ≡ take 16 rest → tail ≡ drop 16 rest → length tail + 16 ≡ length rest → first ≡ stands_alone index loop_block → last ≡ (length tail / 16 == 0)
    → new ≡ after_targets (best_header first p1 p2 block) (coder_after p1 p2) block
    → items ++ block_reports (length rest / 16) index loop_block looped p1 p2 rest ≡ whole
    → (items ++ block_report first last looped p1 p2 block ∷ []) ++ block_reports (length tail / 16) (index + 1) loop_block looped new.last new.before tail ≡ whole
reports_next items index loop_block first last looped p1 p2 rest block tail new whole is_block is_tail sized first_is last_is new_is all =
    let coded = block_is_coded first p1 p2 rest block tail new is_block sized new_is in
    ap (λ (n : ℕ). (items ++ block_report first last looped p1 p2 block ∷ []) ++ block_reports (length tail / 16) n loop_block looped new.last new.before tail) (add-one index)
    ∙ append_assoc items _ _
    ∙ (λ i. items ++ (block_report (first_is i) (last_is i) looped p1 p2 (is_block i) ∷ block_reports (length tail / 16) (suc index) loop_block looped (coded.last i) (coded.before i) (is_tail i)))
    ∙ (λ i. items ++ (block_report (stands_alone index loop_block) (length tail / 16 == 0) looped p1 p2 (take 16 rest) ∷ block_reports (length tail / 16) (suc index) loop_block looped (number_at (block_samples (first_is i) p1 p2 (take 16 rest)) 15) (number_at (block_samples (first_is i) p1 p2 (take 16 rest)) 14) (drop 16 rest)))
    ∙ ap (λ (n : ℕ). items ++ block_reports n index loop_block looped p1 p2 rest) (sym coded.count) ∙ all

-- a header that is tried leaves room for end and loop bits
header_at-whole : (place : ℕ) → header_at place % 4 ≡ 0
header_at-whole place = omega arith

best_header-whole : (first : Bool) (p1 p2 : ℤ) (targets : List ℤ) → best_header first p1 p2 targets % 4 ≡ 0
unfolding best_header
best_header-whole first p1 p2 targets = header_at-whole _

end_bits-few : (last looped : Bool) → end_bits last looped < 4
end_bits-few true true = omega arith
end_bits-few true false = omega arith
end_bits-few false looped = omega arith

length-digit_bytes : (h : ℕ) (p1 p2 : ℤ) (targets : List ℤ) → length targets % 2 ≡ 0 → 2 * length (digit_bytes (greedy_digits h p1 p2 targets)) ≡ length targets
length-digit_bytes h p1 p2 [] even = refl
length-digit_bytes h p1 p2 (a ∷ []) even = absurd (omega arith)
length-digit_bytes h p1 p2 (a ∷ b ∷ targets) even =
    let kept = nearest_sample h a p1 p2 in
    let ih = length-digit_bytes h (nearest_sample h b kept p1) kept targets (omega arith) in omega (arith, ih)

length-block_of : (first last looped : Bool) (p1 p2 : ℤ) (targets : List ℤ) → length targets ≡ 16 → length (block_of first last looped p1 p2 targets) ≡ 9
length-block_of first last looped p1 p2 targets sixteen =
    let digits = length-digit_bytes (best_header first p1 p2 targets) p1 p2 targets (omega arith) in omega (arith, digits, sixteen)

length-greedy_samples : (h : ℕ) (p1 p2 : ℤ) (targets : List ℤ) → length (greedy_samples h p1 p2 targets) ≡ length targets
length-greedy_samples h p1 p2 [] = refl
length-greedy_samples h p1 p2 (target ∷ targets) = ap suc (length-greedy_samples h (nearest_sample h target p1 p2) p1 targets)

-- the samples that are kept of all blocks
abbrev kept_of : (count index loop_block : ℕ) → (p1 p2 : ℤ) → (targets : List ℤ) → List ℤ
kept_of zero index loop_block p1 p2 targets = []
kept_of (suc count) index loop_block p1 p2 targets =
    let kept = block_samples (stands_alone index loop_block) p1 p2 (take 16 targets) in
    kept ++ kept_of count (suc index) loop_block (number_at kept 15) (number_at kept 14) (drop 16 targets)

-- digits after others go on from the last two samples
kept_after-append : (xs ys : List Digit) (p1 p2 : ℤ)
    → kept_after (xs ++ ys) p1 p2 ≡ kept_after xs p1 p2 ++ kept_after ys (number_at (p2 ∷ p1 ∷ kept_after xs p1 p2) (suc (length xs))) (number_at (p2 ∷ p1 ∷ kept_after xs p1 p2) (length xs))
kept_after-append [] ys p1 p2 = refl
kept_after-append (x ∷ xs) ys p1 p2 =
    let kept = kept_sample x.header x.value p1 p2 in ap (λ (l : List ℤ). kept ∷ l) (kept_after-append xs ys kept p1)

-- a block after p1 and p2, decoded, and what follows it
decoded_block : (first last looped : Bool) (p1 p2 : ℤ) (targets : List ℤ) (rest : List ℕ) → length targets ≡ 16
    → let kept = block_samples first p1 p2 targets in
    kept_after (digits_of (block_of first last looped p1 p2 targets ++ rest)) p1 p2 ≡ kept ++ kept_after (digits_of rest) (number_at kept 15) (number_at kept 14)
decoded_block first last looped p1 p2 targets rest sixteen =
    let h = best_header first p1 p2 targets in
    let e = end_bits last looped in
    let kept = block_samples first p1 p2 targets in
    let block = block_of first last looped p1 p2 targets in
    let digits = digits_under (h + e) (digit_bytes (greedy_digits h p1 p2 targets)) in
    let split : digits_of (block ++ rest) ≡ digits ++ digits_of rest = digits_of-block block rest (length-block_of first last looped p1 p2 targets sixteen) in
    let decoded : kept_after digits p1 p2 ≡ kept = decoded_digits h e p1 p2 targets (best_header-whole first p1 p2 targets) (end_bits-few last looped) (omega (arith, sixteen)) in
    let long : length digits ≡ 16 = sym (length-kept_after digits p1 p2) ∙ ap (λ (l : List ℤ). length l) decoded ∙ length-greedy_samples h p1 p2 targets ∙ sixteen in
    ap (λ (ds : List Digit). kept_after ds p1 p2) split ∙ kept_after-append digits (digits_of rest) p1 p2
    ∙ (λ i. decoded i ++ kept_after (digits_of rest) (number_at (p2 ∷ p1 ∷ decoded i) (suc (long i))) (number_at (p2 ∷ p1 ∷ decoded i) (long i)))

-- all blocks, decoded
decoded_blocks : (count index loop_block : ℕ) (looped : Bool) (p1 p2 : ℤ) (targets : List ℤ) → length targets ≡ 16 * count
    → kept_after (digits_of (blocks_of count index loop_block looped p1 p2 targets)) p1 p2 ≡ kept_of count index loop_block p1 p2 targets
decoded_blocks zero index loop_block looped p1 p2 targets sized = refl
decoded_blocks (suc count) index loop_block looped p1 p2 targets sized =
    let first = stands_alone index loop_block in
    let kept = block_samples first p1 p2 (take 16 targets) in
    let sixteen : length (take 16 targets) ≡ 16 = length-take-le 16 targets (omega (arith, sized)) in
    let left : length (drop 16 targets) ≡ 16 * count = length-drop 16 targets ∙ omega (arith, sized) in
    decoded_block first (count == 0) looped p1 p2 (take 16 targets) (blocks_of count (suc index) loop_block looped (number_at kept 15) (number_at kept 14) (drop 16 targets)) sixteen
    ∙ ap (λ (l : List ℤ). kept ++ l) (decoded_blocks count (suc index) loop_block looped (number_at kept 15) (number_at kept 14) (drop 16 targets) left)

length-blocks_of : (count index loop_block : ℕ) (looped : Bool) (p1 p2 : ℤ) (targets : List ℤ) → length targets ≡ 16 * count → length (blocks_of count index loop_block looped p1 p2 targets) ≡ 9 * count
length-blocks_of zero index loop_block looped p1 p2 targets sized = refl
length-blocks_of (suc count) index loop_block looped p1 p2 targets sized =
    let first = stands_alone index loop_block in
    let kept = block_samples first p1 p2 (take 16 targets) in
    let sixteen : length (take 16 targets) ≡ 16 = length-take-le 16 targets (omega (arith, sized)) in
    let left : length (drop 16 targets) ≡ 16 * count = length-drop 16 targets ∙ omega (arith, sized) in
    let block = length-block_of first (count == 0) looped p1 p2 (take 16 targets) sixteen in
    let ih = length-blocks_of count (suc index) loop_block looped (number_at kept 15) (number_at kept 14) (drop 16 targets) left in
    length-append (block_of first (count == 0) looped p1 p2 (take 16 targets)) _ ∙ omega (arith, block, ih)

-- the reports, read off the blocks and their kept samples
reports_of_kept : (count index loop_block : ℕ) (looped : Bool) (p1 p2 : ℤ) (targets : List ℤ) → length targets ≡ 16 * count
    → block_reports count index loop_block looped p1 p2 targets ≡ reports_from count (blocks_of count index loop_block looped p1 p2 targets) (kept_of count index loop_block p1 p2 targets) targets
reports_of_kept zero index loop_block looped p1 p2 targets sized = refl
reports_of_kept (suc count) index loop_block looped p1 p2 targets sized =
    let first = stands_alone index loop_block in
    let block = take 16 targets in
    let h = best_header first p1 p2 block in
    let e = end_bits (count == 0) looped in
    let kept = block_samples first p1 p2 block in
    let bytes = block_of first (count == 0) looped p1 p2 block in
    let rest = blocks_of count (suc index) loop_block looped (number_at kept 15) (number_at kept 14) (drop 16 targets) in
    let others = kept_of count (suc index) loop_block (number_at kept 15) (number_at kept 14) (drop 16 targets) in
    let sixteen : length block ≡ 16 = length-take-le 16 targets (omega (arith, sized)) in
    let left : length (drop 16 targets) ≡ 16 * count = length-drop 16 targets ∙ omega (arith, sized) in
    let here = take_at kept others 16 (length-greedy_samples h p1 p2 block ∙ sixteen) in
    let after = drop_at kept others 16 (length-greedy_samples h p1 p2 block ∙ sixteen) in
    let bytes_after = drop_at bytes rest 9 (length-block_of first (count == 0) looped p1 p2 block sixteen) in
    ap (λ (l : List BlockReport). record { header = h + e; worst = worst kept block; squares = squares kept block } ∷ l)
    (reports_of_kept count (suc index) loop_block looped (number_at kept 15) (number_at kept 14) (drop 16 targets) left)
    ∙ (λ i. record { header = h + e; worst = worst (sym here i) block; squares = squares (sym here i) block } ∷ reports_from count (sym bytes_after i) (sym after i) (drop 16 targets))

-- the reports that are made are those that are read off the encoding
pub reports_are_true : (loop_block : ℕ) (samples : List ℤ) (looped : Bool) → length (padded_samples samples) % 16 ≡ 0 → all_reports loop_block samples looped ≡ reports_of (encoding_from loop_block samples looped) (padded_samples samples)
unfolding encoding_from reports_of
reports_are_true loop_block samples looped whole =
    let count = length (padded_samples samples) / 16 in
    let sized : length (padded_samples samples) ≡ 16 * count = omega (arith, whole) in
    let bytes = blocks_of count 0 loop_block looped (pos 0) (pos 0) (padded_samples samples) in
    let blocks : length bytes / 9 ≡ count = let l = length-blocks_of count 0 loop_block looped (pos 0) (pos 0) (padded_samples samples) sized in omega (arith, l) in
    let decoded : samples_of bytes ≡ kept_of count 0 loop_block (pos 0) (pos 0) (padded_samples samples) = samples_of-is bytes ∙ decoded_blocks count 0 loop_block looped (pos 0) (pos 0) (padded_samples samples) sized in
    reports_of_kept count 0 loop_block looped (pos 0) (pos 0) (padded_samples samples) sized
    ∙ (λ i. reports_from (sym blocks i) bytes (sym decoded i) (padded_samples samples))
