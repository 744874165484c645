-- Lists of twelve samples, entry by entry.
use Rattle.std.proofs.Common.{◌≡◌, ℕ, List, [], ◌∷◌, ◌++◌, ℤ, pos, length, drop, refl, sym, ap, ◌∙◌, map, arith}
use Rattle.std.proofs.lemmas.List.{get_or-reverse, drop-append-le}
use Rattle.brr_decode.specs.Kept.{EndsWith}
use Rattle.std.specs.List.{range_with_len}
use Rattle.std.proofs.lemmas.List.FromFn.{fill_by_all}
use Rattle.num_fix.specs.SignedWords.{number_at}

-- a list is its entries in order
entries : (n : ℕ) (s : List ℤ) → length s ≡ n → s ≡ map (number_at s) (range_with_len 0 n)
entries n s e = fill_by_all (number_at s) s n (pos 0) e (λ k below. refl)

-- the last eight of twelve entries and four more, written out
pub shifted_entries : (s group : List ℤ) → length s ≡ 12 → length group ≡ 4
    → number_at s 4 ∷ number_at s 5 ∷ number_at s 6 ∷ number_at s 7 ∷ number_at s 8 ∷ number_at s 9 ∷ number_at s 10 ∷ number_at s 11
    ∷ number_at group 0 ∷ number_at group 1 ∷ number_at group 2 ∷ number_at group 3 ∷ []
    ≡ drop 4 s ++ group
shifted_entries s group twelve four =
    let older : drop 4 s ≡ drop 4 (map (number_at s) (range_with_len 0 12)) = ap (drop 4) (entries 12 s twelve) in
    let newer : group ≡ map (number_at group) (range_with_len 0 4) = entries 4 group four in
    sym (ap (λ (xs : List ℤ). xs ++ group) older ∙ ap (λ (xs : List ℤ). drop 4 (map (number_at s) (range_with_len 0 12)) ++ xs) newer)

-- twelve samples end with their last two
pub ends_with_last_two : (s : List ℤ) → length s ≡ 12 → EndsWith s (number_at s 10) (number_at s 11)
ends_with_last_two s twelve =
    record { last = rw twelve at (get_or-reverse s 0 (pos 0) (omega arith)); before = rw twelve at (get_or-reverse s 1 (pos 0) (omega arith)) }

-- four more after twelve leave the last eight of them when the four oldest are dropped
pub drop-more : (s group : List ℤ) → length s ≡ 12 → drop 4 (s ++ group) ≡ drop 4 s ++ group
drop-more s group twelve = drop-append-le 4 s group (omega arith)
