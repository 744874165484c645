-- Lists of kept samples, by groups and by blocks.
use Rattle.std.proofs.Common.{◌≡◌, ◌∙◌, sym, ap, refl, ◌-◌, ◌*◌, ◌/◌, ◌^◌, ◌<◌, ◌≤◌, ℕ, ℤ, pos, negsuc, unsigned_abs, List, [], ◌∷◌, ◌++◌, length, get_or, take, drop, arith, append_assoc, zero, suc, lit≤}
use Rattle.std.specs.Prelude.{map}
use Rattle.std.specs.List.{range_with_len}
use Rattle.std.specs.Int.{w16, cast_signed, cast_unsigned, int_rem_euclid}
use Rattle.std.proofs.lemmas.Int.{of_z-to_z}
use Rattle.std.proofs.lemmas.List.Sums.{fold-append}
use Rattle.std.proofs.lemmas.List.{length-take-le, take-append-drop}
use Rattle.num_fix.specs.Arithmetic.{wrap16}
use Rattle.num_fix.specs.SignedWords.{number_at}
use Rattle.num_fix.proofs.Entries.{drop-entries}
use Rattle.brr_decode.specs.Kept.{kept_sample, Digit, with_kept, with_all_kept, digits_under, digits_of, EndsWith, samples_of}
use Rattle.brr_decode.proofs.Samples.{kept_after, length-kept_after, with_all_kept-is, EndsWith-append, IsKept-samples_of}

-- a number that is stored in 16 bits and read again
abbrev pub read_again : ℤ → ℤ
read_again z = cast_signed w16 (cast_unsigned w16 z)

-- an entry of a list that is stored in 16 bits and read again
abbrev pub stored_at : List ℤ → ℕ → ℤ
stored_at xs i = read_again (number_at xs i)

remainder_small : (z : ℤ) → unsigned_abs (int_rem_euclid z (pos 65536)) < 2 ^ 16
remainder_small (pos a) = omega arith
remainder_small (negsuc a) = omega arith

read_again-wrap16 : (z : ℤ) → read_again (wrap16 z) ≡ wrap16 z
unfolding wrap16
read_again-wrap16 z = ap (cast_signed w16) (of_z-to_z w16 (unsigned_abs (int_rem_euclid z (pos 65536))) (remainder_small z))

pub read_again-kept_sample : (h : ℕ) (d p1 p2 : ℤ) → read_again (kept_sample h d p1 p2) ≡ kept_sample h d p1 p2
unfolding kept_sample
read_again-kept_sample h d p1 p2 = read_again-wrap16 _

stored_kept_after : (ds : List Digit) (p1 p2 : ℤ) (i : ℕ) → stored_at (kept_after ds p1 p2) i ≡ number_at (kept_after ds p1 p2) i
stored_kept_after [] p1 p2 i = refl
stored_kept_after (d ∷ ds) p1 p2 zero = read_again-kept_sample d.header d.value p1 p2
stored_kept_after (d ∷ ds) p1 p2 (suc i) = stored_kept_after ds (kept_sample d.header d.value p1 p2) p1 i

-- digits give these samples after any that end with p2 and p1
abbrev pub Gives : (ds : List Digit) → (p1 p2 : ℤ) → (given : List ℤ) → Type 0
Gives ds p1 p2 given = (samples : List ℤ) → EndsWith samples p2 p1 → with_all_kept samples ds ≡ samples ++ given

pub Gives-is : (ds : List Digit) (p1 p2 : ℤ) (given : List ℤ) → Gives ds p1 p2 given → given ≡ kept_after ds p1 p2
Gives-is ds p1 p2 given gives =
    let two = p2 ∷ p1 ∷ [] in
    let ends : EndsWith two p2 p1 = record { last = refl; before = refl } in
    let same : p2 ∷ p1 ∷ given ≡ p2 ∷ p1 ∷ kept_after ds p1 p2 = sym (gives two ends) ∙ with_all_kept-is ds two p2 p1 ends in
    cc

pub stored-given : (ds : List Digit) (p1 p2 : ℤ) (given : List ℤ) (i : ℕ) → Gives ds p1 p2 given → stored_at given i ≡ number_at given i
stored-given ds p1 p2 given i gives =
    let is = Gives-is ds p1 p2 given gives in
    ap (λ (l : List ℤ). stored_at l i) is ∙ stored_kept_after ds p1 p2 i ∙ ap (λ (l : List ℤ). number_at l i) (sym is)

-- the digits of a group
abbrev pub group : (h x y : ℕ) → List Digit
group h x y = digits_under h (x ∷ y ∷ [])

-- four samples, stored and read again
abbrev pub four : List ℤ → List ℤ
four xs = stored_at xs 0 ∷ stored_at xs 1 ∷ stored_at xs 2 ∷ stored_at xs 3 ∷ []

four-given : (h x y : ℕ) (p1 p2 : ℤ) (given : List ℤ) → Gives (group h x y) p1 p2 given → four given ≡ given
four-given h x y p1 p2 given gives =
    let is = Gives-is (group h x y) p1 p2 given gives in
    let stored = λ (i : ℕ). stored_kept_after (group h x y) p1 p2 i in
    ap four is ∙ (λ i. stored 0 i ∷ stored 1 i ∷ stored 2 i ∷ stored 3 i ∷ []) ∙ sym is

-- after a group the next one stands on its last two samples
after_group : (h x y : ℕ) (p1 p2 : ℤ) (given samples : List ℤ) → Gives (group h x y) p1 p2 given → EndsWith samples p2 p1 →
    with_all_kept samples (group h x y) ≡ samples ++ four given
after_group h x y p1 p2 given samples gives ends =
    gives samples ends ∙ ap (λ (l : List ℤ). samples ++ l) (sym (four-given h x y p1 p2 given gives))

ends_with_four : (samples given : List ℤ) → EndsWith (samples ++ four given) (stored_at given 2) (stored_at given 3)
ends_with_four samples given = EndsWith-append samples (four given) (lit≤ tt)

regrouped : (s a b c d : List ℤ) → (((s ++ a) ++ b) ++ c) ++ d ≡ s ++ (a ++ (b ++ (c ++ d)))
regrouped s a b c d = simp append_assoc

-- the sixteen samples of a block
pub Gives-block : (h b1 b2 b3 b4 b5 b6 b7 b8 : ℕ) (p1 p2 : ℤ) (a b c d : List ℤ) →
    Gives (group h b1 b2) p1 p2 a →
    Gives (group h b3 b4) (stored_at a 3) (stored_at a 2) b →
    Gives (group h b5 b6) (stored_at b 3) (stored_at b 2) c →
    Gives (group h b7 b8) (stored_at c 3) (stored_at c 2) d →
    Gives (digits_of (h ∷ b1 ∷ b2 ∷ b3 ∷ b4 ∷ b5 ∷ b6 ∷ b7 ∷ b8 ∷ [])) p1 p2 (four a ++ (four b ++ (four c ++ four d)))
Gives-block h b1 b2 b3 b4 b5 b6 b7 b8 p1 p2 a b c d gives_a gives_b gives_c gives_d = λ samples ends.
    let to_a = samples ++ four a in
    let to_b = to_a ++ four b in
    let to_c = to_b ++ four c in
    let B = group h b3 b4 in
    let C = group h b5 b6 in
    let D = group h b7 b8 in
    ap (λ (l : List ℤ). with_all_kept (with_all_kept (with_all_kept l B) C) D) (after_group h b1 b2 p1 p2 a samples gives_a ends)
    ∙ ap (λ (l : List ℤ). with_all_kept (with_all_kept l C) D) (after_group h b3 b4 _ _ b to_a gives_b (ends_with_four samples a))
    ∙ ap (λ (l : List ℤ). with_all_kept l D) (after_group h b5 b6 _ _ c to_b gives_c (ends_with_four to_a b))
    ∙ after_group h b7 b8 _ _ d to_c gives_d (ends_with_four to_b c)
    ∙ regrouped samples (four a) (four b) (four c) (four d)

-- nine bytes, one by one
pub nine : (bytes : List ℕ) → length bytes ≡ 9 → bytes ≡ map (λ i. get_or bytes i 0) (range_with_len 0 9)
nine bytes is = drop-entries 9 0 bytes 0 (sym is)

-- the digits of nine bytes or more are those of the first block and those of the rest
digits_of-nine : (rest block tail : List ℕ) → block ≡ take 9 rest → tail ≡ drop 9 rest → 9 ≤ length rest → digits_of rest ≡ digits_of block ++ digits_of tail
digits_of-nine rest block tail is_block is_tail long =
    let sized : length block ≡ 9 = ap (λ (l : List ℕ). length l) is_block ∙ length-take-le 9 rest long in
    let whole : rest ≡ block ++ tail = sym (take-append-drop 9 rest) ∙ (λ i. sym is_block i ++ sym is_tail i) in
    let byte = λ (i : ℕ). get_or block i 0 in
    let first = byte 0 ∷ byte 1 ∷ byte 2 ∷ byte 3 ∷ byte 4 ∷ byte 5 ∷ byte 6 ∷ byte 7 ∷ byte 8 ∷ [] in
    ap digits_of whole ∙ ap (λ (l : List ℕ). digits_of (l ++ tail)) (nine block sized)
    ∙ ap (λ (l : List ℕ). digits_of l ++ digits_of tail) (sym (nine block sized))

-- one block more of a stream
pub one_block_more : (rest block tail : List ℕ) (samples given all : List ℤ) (p1 p2 : ℤ) → block ≡ take 9 rest → tail ≡ drop 9 rest → 9 ≤ length rest →
    Gives (digits_of block) p1 p2 given → EndsWith samples p2 p1 → with_all_kept samples (digits_of rest) ≡ all →
    with_all_kept (samples ++ given) (digits_of tail) ≡ all
one_block_more rest block tail samples given all p1 p2 is_block is_tail long gives ends so_far =
    ap (λ (l : List ℤ). with_all_kept l (digits_of tail)) (sym (gives samples ends))
    ∙ sym (fold-append with_kept samples (digits_of block) (digits_of tail))
    ∙ ap (λ (ds : List Digit). with_all_kept samples ds) (sym (digits_of-nine rest block tail is_block is_tail long))
    ∙ so_far

-- a block gives sixteen samples, of which the last two are stored and read again
pub EndsWith-block : (block : List ℕ) (samples given : List ℤ) (p1 p2 : ℤ) → length block ≡ 9 → Gives (digits_of block) p1 p2 given →
    EndsWith (samples ++ given) (stored_at given 14) (stored_at given 15)
EndsWith-block block samples given p1 p2 sized gives =
    let is = Gives-is (digits_of block) p1 p2 given gives in
    let sixteen : length given ≡ 16 = ap (λ (l : List ℤ). length l) is ∙ length-kept_after (digits_of block) p1 p2 ∙ ap (λ (l : List ℕ). length (digits_of l)) (nine block sized) in
    let ends = EndsWith-append samples given (omega arith) in
    record {
      last = ends.last ∙ ap (λ (n : ℕ). number_at given (n - 1 - 0)) sixteen ∙ sym (stored-given (digits_of block) p1 p2 given 15 gives);
      before = ends.before ∙ ap (λ (n : ℕ). number_at given (n - 1 - 1)) sixteen ∙ sym (stored-given (digits_of block) p1 p2 given 14 gives);
    }

length-digits_of : (bytes : List ℕ) → length (digits_of bytes) ≡ 16 * (length bytes / 9)
length-digits_of [] = refl
length-digits_of (a ∷ []) = refl
length-digits_of (a ∷ b ∷ []) = refl
length-digits_of (a ∷ b ∷ c ∷ []) = refl
length-digits_of (a ∷ b ∷ c ∷ d ∷ []) = refl
length-digits_of (a ∷ b ∷ c ∷ d ∷ e ∷ []) = refl
length-digits_of (a ∷ b ∷ c ∷ d ∷ e ∷ f ∷ []) = refl
length-digits_of (a ∷ b ∷ c ∷ d ∷ e ∷ f ∷ g ∷ []) = refl
length-digits_of (a ∷ b ∷ c ∷ d ∷ e ∷ f ∷ g ∷ h ∷ []) = refl
length-digits_of (a ∷ b ∷ c ∷ d ∷ e ∷ f ∷ g ∷ h ∷ i ∷ rest) = omega (arith, length-digits_of rest)

-- a stream has sixteen samples for each nine bytes
pub length-samples_of : (bytes : List ℕ) → length (samples_of bytes) ≡ 16 * (length bytes / 9)
length-samples_of bytes = (IsKept-samples_of bytes).as_long ∙ length-digits_of bytes

-- fewer than nine bytes have no digits
digits_of-short : (bytes : List ℕ) → length bytes < 9 → digits_of bytes ≡ []
digits_of-short [] h = refl
digits_of-short (a ∷ []) h = refl
digits_of-short (a ∷ b ∷ []) h = refl
digits_of-short (a ∷ b ∷ c ∷ []) h = refl
digits_of-short (a ∷ b ∷ c ∷ d ∷ []) h = refl
digits_of-short (a ∷ b ∷ c ∷ d ∷ e ∷ []) h = refl
digits_of-short (a ∷ b ∷ c ∷ d ∷ e ∷ f ∷ []) h = refl
digits_of-short (a ∷ b ∷ c ∷ d ∷ e ∷ f ∷ g ∷ []) h = refl
digits_of-short (a ∷ b ∷ c ∷ d ∷ e ∷ f ∷ g ∷ h ∷ []) _ = refl
digits_of-short (a ∷ b ∷ c ∷ d ∷ e ∷ f ∷ g ∷ h ∷ i ∷ rest) small = absurd (omega arith)

-- a stream whose bytes are used up has all its samples
pub no_block_more : (rest : List ℕ) (samples all : List ℤ) → length rest < 9 → with_all_kept samples (digits_of rest) ≡ all → samples ≡ all
no_block_more rest samples all short so_far = ap (λ (ds : List Digit). with_all_kept samples ds) (sym (digits_of-short rest short)) ∙ so_far
