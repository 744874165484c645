-- Groups of a block that stand in a row.
use Rattle.std.proofs.Common.{◌≡◌, ◌≢◌, ◌∙◌, sym, ap, refl, zero, suc, ◌+◌, ◌-◌, ◌*◌, ◌<◌, ◌≤◌, ◌==◌, ℕ, Bool, true, false, ℤ, pos, List, ◌++◌, length, take, drop, get_or, length-drop, append_assoc, arith}
use Rattle.std.proofs.Math.Seq.{take-add, take-append-add}
use Rattle.std.proofs.lemmas.List.{get_or_append_left, get_or-take, get_or-drop, length-take-le, take-take, take-append-le, take_at, drop_at, drop-take, append-nil, drop-drop, get_or-reverse}
use Rattle.std.proofs.lemmas.Bool.Decides.{nat_tests}
use Rattle.num_fix.specs.SignedWords.{number_at}
use Rattle.brr_decode.specs.Kept.{EndsWith, sample_from_end, with_group}
use Rattle.brr_decode.specs.CachedBlocks.{byte_of, IsGroupAt, with_groups}
use Rattle.brr_decode.proofs.Samples.{EndsWith-append}

-- four numbers put into a row after the first ones
module _ (header digits : ℕ) (row kept rest : List ℤ) (g : ℕ) (within : 4 * g + 6 ≤ length row) (four : length kept ≡ 4) where
  abbrev put : List ℤ
  put = take (4 * g + 2) row ++ (kept ++ rest)

  front : length (take (4 * g + 2) row) ≡ 4 * g + 2
  front = length-take-le (4 * g + 2) row (omega (arith, within))

  pub entry_before : (i : ℕ) → i < 4 * g + 2 → number_at put i ≡ number_at row i
  entry_before i below =
      get_or_append_left (take (4 * g + 2) row) (kept ++ rest) (pos 0) i (omega (arith, front, below)) ∙ get_or-take (4 * g + 2) row i (pos 0) below

  part_before : (k : ℕ) → k < g → take 4 (drop (4 * k + 2) put) ≡ take 4 (drop (4 * k + 2) row)
  part_before k below =
      sym (drop-take (4 * k + 2) 4 put)
      ∙ ap (drop (4 * k + 2)) (take-append-le (4 * k + 2 + 4) (take (4 * g + 2) row) (kept ++ rest) (omega (arith, front, below)) ∙ take-take (4 * k + 2 + 4) (4 * g + 2) row (omega (arith, below)))
      ∙ drop-take (4 * k + 2) 4 row

  part_here : take 4 (drop (4 * g + 2) put) ≡ kept
  part_here = ap (take 4) (drop_at (take (4 * g + 2) row) (kept ++ rest) (4 * g + 2) front) ∙ take_at kept rest 4 four

  pub groups_more : (from : ℕ) → ((k : ℕ) → from ≤ k → k < g → IsGroupAt header digits row k)
      → ((samples : List ℤ) → EndsWith samples (number_at row (4 * g)) (number_at row (4 * g + 1))
      → with_group samples header (byte_of digits (2 * g)) (byte_of digits (2 * g + 1)) ≡ samples ++ kept)
      → (k : ℕ) → from ≤ k → k < g + 1 → IsGroupAt header digits put k
  groups_more from old made k above below samples ends = by (k == g) refl
    where
      by : (b : Bool) → (k == g) ≡ b → with_group samples header (byte_of digits (2 * k)) (byte_of digits (2 * k + 1)) ≡ samples ++ take 4 (drop (4 * k + 2) put)
      by true e =
          let same : k ≡ g = grind (arith, nat_tests, e) in
          let here = rw (same, entry_before (4 * g) (omega arith), entry_before (4 * g + 1) (omega arith)) at ends in
          rw same (made samples here ∙ ap (λ (ys : List ℤ). samples ++ ys) (sym part_here))
      by false e =
          let other : k ≢ g = grind (arith, nat_tests, e) in
          let less : k < g = omega (arith, below, other) in
          let there = rw (entry_before (4 * k) (omega (arith, less)), entry_before (4 * k + 1) (omega (arith, less))) at ends in
          old k above less samples there ∙ ap (λ (ys : List ℤ). samples ++ ys) (sym (part_before k less))

-- all groups of a block from one of them on, after samples that end as those before it
module _ (header digits : ℕ) (row : List ℤ) (g : ℕ) (long : length row ≡ 32) (known : (k : ℕ) → g ≤ k → k < 4 → IsGroupAt header digits row k)
    (samples : List ℤ) (ends : EndsWith samples (number_at row (4 * g)) (number_at row (4 * g + 1))) where
  -- what stands in the row of so many groups
  abbrev part : (d : ℕ) → List ℤ
  part d = take (4 * d) (drop (4 * g + 2) row)

  part_long : (d : ℕ) → g + d ≤ 4 → length (part d) ≡ 4 * d
  part_long d few = length-take-le (4 * d) (drop (4 * g + 2) row) (omega (arith, length-drop (4 * g + 2) row, long, few))

  part_entry : (d i : ℕ) → i < 4 * d → number_at (part d) i ≡ number_at row (4 * g + 2 + i)
  part_entry d i below = get_or-take (4 * d) (drop (4 * g + 2) row) i (pos 0) below ∙ get_or-drop (4 * g + 2) row i (pos 0)

  ends_so : (d : ℕ) → g + d ≤ 4 → EndsWith (samples ++ part d) (number_at row (4 * (g + d))) (number_at row (4 * (g + d) + 1))
  ends_so zero few = let none : g + 0 ≡ g = omega arith in rw (none, append-nil samples) ends
  ends_so (suc d) few =
      let whole : length (part (suc d)) ≡ 4 * suc d = part_long (suc d) few in
      let after = EndsWith-append samples (part (suc d)) (omega (arith, whole)) in
      let last : number_at (part (suc d)) (length (part (suc d)) - 1 - 0) ≡ number_at row (4 * (g + suc d) + 1) =
      part_entry (suc d) (length (part (suc d)) - 1 - 0) (omega (arith, whole)) ∙ ap (number_at row) (omega (arith, whole)) in
      let before : number_at (part (suc d)) (length (part (suc d)) - 1 - 1) ≡ number_at row (4 * (g + suc d)) =
      part_entry (suc d) (length (part (suc d)) - 1 - 1) (omega (arith, whole)) ∙ ap (number_at row) (omega (arith, whole)) in
      record { last = after.last ∙ last; before = after.before ∙ before }

  pub groups_in_row : (d : ℕ) → g + d ≤ 4 → with_groups samples header digits g d ≡ samples ++ part d
  unfolding with_groups
  groups_in_row zero few = sym (append-nil samples)
  groups_in_row (suc d) few =
      let next : 4 * g + 2 + 4 * d ≡ 4 * (g + d) + 2 = omega arith in
      let more : 4 * suc d ≡ 4 * d + 4 = omega arith in
      let joined : part (suc d) ≡ part d ++ take 4 (drop (4 * (g + d) + 2) row) =
      ap (λ (n : ℕ). take n (drop (4 * g + 2) row)) more ∙ take-add (4 * d) 4 (drop (4 * g + 2) row)
      ∙ ap (λ (xs : List ℤ). part d ++ take 4 xs) (drop-drop (4 * d) (4 * g + 2) row ∙ ap (λ (n : ℕ). drop n row) (omega arith)) in
      ap (λ (xs : List ℤ). with_group xs header (byte_of digits (2 * (g + d))) (byte_of digits (2 * (g + d) + 1))) (groups_in_row d (omega (arith, few)))
      ∙ known (g + d) (omega arith) (omega (arith, few)) (samples ++ part d) (ends_so d (omega (arith, few)))
      ∙ append_assoc samples (part d) (take 4 (drop (4 * (g + d) + 2) row))
      ∙ ap (λ (xs : List ℤ). samples ++ xs) (sym joined)

-- the end of the first samples of a list
pub ends_with_take : (row : List ℤ) (len : ℕ) → 2 ≤ len → len ≤ length row → EndsWith (take len row) (number_at row (len - 2)) (number_at row (len - 1))
ends_with_take row len two within = record { last = at 0 (omega arith); before = at 1 (omega arith) }
  where
    long : length (take len row) ≡ len
    long = length-take-le len row within

    at : (k : ℕ) → k < 2 → sample_from_end (take len row) k ≡ number_at row (len - (1 + k))
    at k few =
        let place : length (take len row) - 1 - k ≡ len - (1 + k) = omega (arith, long) in
        get_or-reverse (take len row) k (pos 0) (omega (arith, long, two, few))
        ∙ ap (λ (i : ℕ). get_or (take len row) i (pos 0)) place
        ∙ get_or-take len row (len - (1 + k)) (pos 0) (omega (arith, two, few))

-- the first of a list after which others were put
pub take_put : (xs ys rest : List ℤ) (n m : ℕ) → n ≤ length xs → m ≤ length ys → take (n + m) (take n xs ++ (ys ++ rest)) ≡ take n xs ++ take m ys
take_put xs ys rest n m within few =
    let front : length (take n xs) ≡ n = length-take-le n xs within in
    rw front at (take-append-add (take n xs) (ys ++ rest) m) ∙ ap (λ (zs : List ℤ). take n xs ++ zs) (take-append-le m ys rest few)
