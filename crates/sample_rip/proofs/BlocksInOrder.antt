-- The samples of blocks that are decoded one after another.
use Rattle.std.proofs.Common.{◌≡◌, ◌∙◌, sym, ap, refl, arith, zero, suc, ◌+◌, ◌-◌, ◌*◌, ◌<◌, ℕ, ℤ, List, [], ◌∷◌, ◌++◌, length, drop, append_assoc, length-append}
use Rattle.std.proofs.lemmas.List.{append-nil}
use Rattle.std.proofs.lemmas.List.Sums.{fold-append}
use Rattle.std.proofs.Math.Seq.{drop-append_seam}
use Rattle.brr_decode.specs.Kept.{Digit, EndsWith, digits_of, digits_under, samples_of, with_kept, with_all_kept, sample_from_end}
use Rattle.brr_decode.proofs.Samples.{kept_after, with_all_kept-is}
use Rattle.brr_decode.proofs.Blocks.{Gives, EndsWith-block, stored_at, length-samples_of}
use Rattle.sample_rip.specs.Blocks.{block_bytes, stream_of}

length-stream_of : (memory : List ℕ) (start n : ℕ) → length (stream_of memory start n) ≡ 9 * n
length-stream_of memory start zero = refl
length-stream_of memory start (suc n) = rw (length-append (stream_of memory start n) (block_bytes memory start n), length-stream_of memory start n) (omega arith)

-- the digits of whole blocks, and then of other bytes
digits_of-append : (n : ℕ) (xs ys : List ℕ) → length xs ≡ 9 * n → digits_of (xs ++ ys) ≡ digits_of xs ++ digits_of ys
digits_of-append zero [] ys sized = refl
digits_of-append zero (a ∷ xs) ys sized = absurd (omega arith)
digits_of-append (suc n) [] ys sized = absurd (omega arith)
digits_of-append (suc n) (a ∷ []) ys sized = absurd (omega arith)
digits_of-append (suc n) (a ∷ b ∷ []) ys sized = absurd (omega arith)
digits_of-append (suc n) (a ∷ b ∷ c ∷ []) ys sized = absurd (omega arith)
digits_of-append (suc n) (a ∷ b ∷ c ∷ d ∷ []) ys sized = absurd (omega arith)
digits_of-append (suc n) (a ∷ b ∷ c ∷ d ∷ e ∷ []) ys sized = absurd (omega arith)
digits_of-append (suc n) (a ∷ b ∷ c ∷ d ∷ e ∷ f ∷ []) ys sized = absurd (omega arith)
digits_of-append (suc n) (a ∷ b ∷ c ∷ d ∷ e ∷ f ∷ g ∷ []) ys sized = absurd (omega arith)
digits_of-append (suc n) (a ∷ b ∷ c ∷ d ∷ e ∷ f ∷ g ∷ h ∷ []) ys sized = absurd (omega arith)
digits_of-append (suc n) (a ∷ b ∷ c ∷ d ∷ e ∷ f ∷ g ∷ h ∷ i ∷ xs) ys sized =
    let first = digits_under a (b ∷ c ∷ d ∷ e ∷ f ∷ g ∷ h ∷ i ∷ []) in
    ap (λ (ds : List Digit). first ++ ds) (digits_of-append n xs ys (omega arith)) ∙ sym (append_assoc first (digits_of xs) (digits_of ys))

-- the samples of one block more
samples_of-more : (memory : List ℕ) (start n : ℕ) → samples_of (stream_of memory start (suc n)) ≡ with_all_kept (samples_of (stream_of memory start n)) (digits_of (block_bytes memory start n))
unfolding samples_of
samples_of-more memory start n =
    let before = stream_of memory start n in
    ap (λ (ds : List Digit). with_all_kept [] ds) (digits_of-append n before (block_bytes memory start n) (length-stream_of memory start n))
    ∙ fold-append with_kept [] (digits_of before) (digits_of (block_bytes memory start n))

-- what a decoded block gives stands after the samples of the blocks before it
samples_after_block : (memory : List ℕ) (start n : ℕ) (p1 p2 : ℤ) (given : List ℤ) → EndsWith (samples_of (stream_of memory start n)) p2 p1 → Gives (digits_of (block_bytes memory start n)) p1 p2 given
    → samples_of (stream_of memory start (suc n)) ≡ samples_of (stream_of memory start n) ++ given
samples_after_block memory start n p1 p2 given ends gives = samples_of-more memory start n ∙ gives (samples_of (stream_of memory start n)) ends

pub ends_after_block : (memory : List ℕ) (start n : ℕ) (p1 p2 : ℤ) (given : List ℤ) → EndsWith (samples_of (stream_of memory start n)) p2 p1 → Gives (digits_of (block_bytes memory start n)) p1 p2 given
    → EndsWith (samples_of (stream_of memory start (suc n))) (stored_at given 14) (stored_at given 15)
ends_after_block memory start n p1 p2 given ends gives =
    rw (samples_after_block memory start n p1 p2 given ends gives) (EndsWith-block (block_bytes memory start n) (samples_of (stream_of memory start n)) given p1 p2 refl gives)

-- the samples of more blocks begin with those of fewer
samples_begin : (memory : List ℕ) (start n k : ℕ) → (rest : List ℤ) × (samples_of (stream_of memory start (n + k)) ≡ samples_of (stream_of memory start n) ++ rest)
samples_begin memory start n zero = let same : n + 0 ≡ n = omega arith in ([], rw same (sym (append-nil (samples_of (stream_of memory start n)))))
samples_begin memory start n (suc k) =
    let shorter = samples_begin memory start n k in
    let samples = samples_of (stream_of memory start (n + k)) in
    let ds = digits_of (block_bytes memory start (n + k)) in
    let more = kept_after ds (sample_from_end samples 0) (sample_from_end samples 1) in
    let one : n + suc k ≡ suc (n + k) = omega arith in (
      shorter.0 ++ more,
      rw one (samples_of-more memory start (n + k) ∙ with_all_kept-is ds samples (sample_from_end samples 1) (sample_from_end samples 0) (record { last = refl; before = refl })
          ∙ ap (λ (l : List ℤ). l ++ more) shorter.1 ∙ append_assoc (samples_of (stream_of memory start n)) shorter.0 more),
    )

pub length-rip : (memory : List ℕ) (start n : ℕ) → length (samples_of (stream_of memory start n)) ≡ 16 * n
length-rip memory start n = let sized = length-stream_of memory start n in length-samples_of (stream_of memory start n) ∙ omega arith

seam : (xs given rest : List ℤ) (all : List ℤ) (n m : ℕ) → all ≡ (xs ++ given) ++ rest → length xs ≡ n → length (xs ++ given) ≡ m → drop n all ≡ given ++ drop m all
seam xs given rest all n m is first both =
    rw (is, sym first, sym both) (ap (λ (l : List ℤ). drop (length xs) l) (append_assoc xs given rest) ∙ drop-append_seam xs (given ++ rest) ∙ ap (λ (l : List ℤ). given ++ l) (sym (drop-append_seam (xs ++ given) rest)))

-- of all samples, those after n blocks are those of the next block and then the others
pub samples_ahead_of_block : (memory : List ℕ) (start n blocks : ℕ) (p1 p2 : ℤ) (given : List ℤ) → n < blocks → EndsWith (samples_of (stream_of memory start n)) p2 p1 → Gives (digits_of (block_bytes memory start n)) p1 p2 given
    → drop (16 * n) (samples_of (stream_of memory start blocks)) ≡ given ++ drop (16 * (suc n)) (samples_of (stream_of memory start blocks))
samples_ahead_of_block memory start n blocks p1 p2 given inside ends gives =
    let more = samples_begin memory start (suc n) (blocks - suc n) in
    let whole : suc n + (blocks - suc n) ≡ blocks = omega arith in
    let here = samples_after_block memory start n p1 p2 given ends gives in
    let all = (rw whole at more.1) ∙ ap (λ (l : List ℤ). l ++ more.0) here in
    seam (samples_of (stream_of memory start n)) given more.0 (samples_of (stream_of memory start blocks)) (16 * n) (16 * suc n) all (length-rip memory start n) (ap (λ (l : List ℤ). length l) (sym here) ∙ length-rip memory start (suc n))

-- after all blocks nothing is ahead
pub none_ahead : (memory : List ℕ) (start n : ℕ) → drop (16 * n) (samples_of (stream_of memory start n)) ≡ []
none_ahead memory start n = rw (sym (length-rip memory start n)) (ap (λ (l : List ℤ). drop (length (samples_of (stream_of memory start n))) l) (sym (append-nil (samples_of (stream_of memory start n)))) ∙ drop-append_seam (samples_of (stream_of memory start n)) [])
