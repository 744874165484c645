-- The wanted ones of the first entries.
use Rattle.std.proofs.Common.{◌≡◌, ◌∙◌, sym, ap, ℕ, ◌+◌, ◌<◌, Bool, true, false, List, [], ◌∷◌, ◌++◌, filter, get_or, map, arith}
use Rattle.std.specs.Prelude.{cond}
use Rattle.std.specs.List.{range_with_len}
use Rattle.std.proofs.lemmas.List.{map-id}
use Rattle.std.proofs.lemmas.List.FromFn.{filter_of_map_range_with_len_more, get_or-map-range_with_len}

filter_more : (p : ℕ → Bool) (n : ℕ) → filter p (range_with_len 0 (n + 1)) ≡ filter p (range_with_len 0 n) ++ cond (p n) (n ∷ []) []
filter_more p n =
    ap (filter p) (sym (map-id (range_with_len 0 (n + 1))))
    ∙ filter_of_map_range_with_len_more p (λ (k : ℕ). k) 0 n n (omega arith)
    ∙ ap (λ (l : List ℕ). filter p l ++ cond (p n) (n ∷ []) []) (map-id (range_with_len 0 n))

-- what the flag of an entry says
pub flag_of : (p : ℕ → Bool) (flags : List Bool) (i n : ℕ) (b : Bool) → flags ≡ map p (range_with_len 0 256) → i ≡ n → n < 256 → get_or flags i false ≡ b → p n ≡ b
flag_of p flags i n b all same below flag =
    sym (get_or-map-range_with_len p 0 256 n n false below (omega arith)) ∙ (λ j. get_or (sym all j) (sym same j) false) ∙ flag

pub one_wanted : (p : ℕ → Bool) (n : ℕ) → p n ≡ true → filter p (range_with_len 0 n) ++ n ∷ [] ≡ filter p (range_with_len 0 (n + 1))
one_wanted p n is = ap (λ (b : Bool). filter p (range_with_len 0 n) ++ cond b (n ∷ []) []) (sym is) ∙ sym (filter_more p n)

pub none_wanted : (p : ℕ → Bool) (n : ℕ) → p n ≡ false → filter p (range_with_len 0 n) ++ [] ≡ filter p (range_with_len 0 (n + 1))
none_wanted p n is = ap (λ (b : Bool). filter p (range_with_len 0 n) ++ cond b (n ∷ []) []) (sym is) ∙ sym (filter_more p n)
