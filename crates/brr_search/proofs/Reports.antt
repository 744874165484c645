-- The errors of blocks, one sample and one block more.
use Rattle.std.proofs.Common.{◌≡◌, ℕ, suc, ◌+◌, ◌-◌, ◌*◌, ◌<◌, Bool, true, false, ℤ, pos, List, [], ◌∷◌, ◌++◌, length, take, drop, get_or, max, Ok, Err, refl, sym, ap, ◌∙◌, arith, add-one, drop-cons, append_assoc, if◌then◌else◌}
use Rattle.std.proofs.lemmas.List.{drop-drop, get_or-drop}
use Rattle.std.specs.Prelude.{slice_index}
use Rattle.brr_decode.specs.Kept.{samples_of}
use Rattle.brr_decode.specs.Stream.{is_stream_length, decoded_stream}
use Rattle.brr_decode.specs.declared.stream.BrrRefusal.{BrrRefusal}
use Rattle.brr_encode.specs.Greedy.{distance, squares}
use Rattle.brr_encode.specs.Report.{worst, reports_from}
use Rattle.brr_encode.specs.declared.report.BlockReport.{BlockReport}

-- one sample more
pub errors_next : (decoded targets : List ℤ) (i : ℕ) → i < length decoded → length decoded ≡ length targets
    → let far = distance (get_or decoded i (pos 0)) (get_or targets i (pos 0)) in
    (worst (drop i decoded) (drop i targets) ≡ max far (worst (drop (i + 1) decoded) (drop (i + 1) targets)))
    × (squares (drop i decoded) (drop i targets) ≡ far * far + squares (drop (i + 1) decoded) (drop (i + 1) targets))
errors_next decoded targets i h same =
    let a : drop i decoded ≡ get_or decoded i (pos 0) ∷ drop (i + 1) decoded = rw add-one (drop-cons decoded i (pos 0) h) in
    let b : drop i targets ≡ get_or targets i (pos 0) ∷ drop (i + 1) targets = rw add-one (drop-cons targets i (pos 0) (omega (arith, h, same))) in
    rw (a, b) (refl, refl)

decoded_by : (b : Bool) (samples decoded : List ℤ) (refusal : BrrRefusal) → (if b then Ok samples else Err refusal) ≡ Ok decoded → decoded ≡ samples
decoded_by true samples decoded refusal h = cc
decoded_by false samples decoded refusal h = absurd (cc)

-- what a stream is decoded to
pub decoded_is : (bytes : List ℕ) (decoded : List ℤ) → decoded_stream bytes ≡ Ok decoded → decoded ≡ samples_of bytes
unfolding decoded_stream
decoded_is bytes decoded h = decoded_by (is_stream_length (length bytes)) (samples_of bytes) decoded _ h

-- the report of the block of an index
pub report_at : (index : ℕ) (bytes : List ℕ) (decoded targets : List ℤ) → BlockReport
report_at index bytes decoded targets =
    let samples = take 16 (drop (16 * index) decoded) in
    let wanted = take 16 (drop (16 * index) targets) in
    record { header = slice_index bytes (9 * index); worst = worst samples wanted; squares = squares samples wanted }

-- the same by ranges
pub report_ranged : (index : ℕ) (bytes : List ℕ) (decoded other targets : List ℤ) (report : BlockReport) → other ≡ decoded
    → report ≡ record { header = slice_index bytes (9 * index); worst = worst (take (16 * index + 16 - 16 * index) (drop (16 * index) other)) (take (16 * index + 16 - 16 * index) (drop (16 * index) targets)); squares = squares (take (16 * index + 16 - 16 * index) (drop (16 * index) other)) (take (16 * index + 16 - 16 * index) (drop (16 * index) targets)) }
    → report ≡ report_at index bytes decoded targets
unfolding report_at
report_ranged index bytes decoded other targets report same is =
    let sixteen : 16 * index + 16 - 16 * index ≡ 16 = omega arith in
    is ∙ (λ i. record { header = slice_index bytes (9 * index); worst = worst (take (sixteen i) (drop (16 * index) (same i))) (take (sixteen i) (drop (16 * index) targets)); squares = squares (take (sixteen i) (drop (16 * index) (same i))) (take (sixteen i) (drop (16 * index) targets)) })

after : {A : Type 0} (size index : ℕ) (xs : List A) → drop size (drop (size * index) xs) ≡ drop (size * (index + 1)) xs
after size index xs = drop-drop size (size * index) xs ∙ ap (λ (n : ℕ). drop n xs) (sym (mul_more size index))
  where
    mul_more : (size index : ℕ) → size * (index + 1) ≡ size * index + size
    mul_more size index = grind arith

-- one block more
pub reports_next : (items : List BlockReport) (count index : ℕ) (bytes : List ℕ) (decoded targets : List ℤ) (report : BlockReport) (total : List BlockReport)
    → index < count → report ≡ report_at index bytes decoded targets
    → items ++ reports_from (count - index) (drop (9 * index) bytes) (drop (16 * index) decoded) (drop (16 * index) targets) ≡ total
    → (items ++ report ∷ []) ++ reports_from (count - (index + 1)) (drop (9 * (index + 1)) bytes) (drop (16 * (index + 1)) decoded) (drop (16 * (index + 1)) targets) ≡ total
unfolding report_at
reports_next items count index bytes decoded targets report total h is whole =
    let left : count - index ≡ suc (count - (index + 1)) = omega (arith, h) in
    let nine : drop 9 (drop (9 * index) bytes) ≡ drop (9 * (index + 1)) bytes = after 9 index bytes in
    let samples : drop 16 (drop (16 * index) decoded) ≡ drop (16 * (index + 1)) decoded = after 16 index decoded in
    let wanted : drop 16 (drop (16 * index) targets) ≡ drop (16 * (index + 1)) targets = after 16 index targets in
    let first : slice_index (drop (9 * index) bytes) 0 ≡ slice_index bytes (9 * index) = get_or-drop (9 * index) bytes 0 0 ∙ ap (λ (n : ℕ). slice_index bytes n) (omega arith) in
    append_assoc items _ _
    ∙ (λ i. items ++ (is i ∷ reports_from (count - (index + 1)) (sym nine i) (sym samples i) (sym wanted i)))
    ∙ (λ i. items ++ (record (report_at index bytes decoded targets) { header = sym first i } ∷ reports_from (count - (index + 1)) (drop 9 (drop (9 * index) bytes)) (drop 16 (drop (16 * index) decoded)) (drop 16 (drop (16 * index) targets))))
    ∙ ap (λ (n : ℕ). items ++ reports_from n (drop (9 * index) bytes) (drop (16 * index) decoded) (drop (16 * index) targets)) (sym left)
    ∙ whole
