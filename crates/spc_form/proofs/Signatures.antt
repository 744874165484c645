-- Where bytes differ from those that are wanted.
use Rattle.std.proofs.Common.{◌≡◌, ◌≢◌, ap, sym, ◌∙◌, ℕ, zero, suc, ◌+◌, ◌-◌, ◌<◌, ◌≤◌, List, [], ◌∷◌, ◌++◌, length, take, get_or, Option, Some, None, Bool, refl, arith}
use Rattle.std.specs.Prelude.{◌==◌, if◌then◌else◌, replicate}
use Rattle.std.proofs.lemmas.List.{length-take}
use Rattle.std.specs.Option.{option_map}
use Rattle.std.proofs.lemmas.Bool.{eq-eqb, ne_eqb}
use Rattle.spc_form.specs.Accepted.{first_difference, padded_to}

-- the difference of two lists that begin with the same byte
difference_after : (wanted bytes : List ℕ) (w byte : ℕ) → w ≡ byte → first_difference (w ∷ wanted) (byte ∷ bytes) ≡ option_map (λ at. at + 1) (first_difference wanted bytes)
difference_after wanted bytes w byte same = ap (λ (b : Bool). if b then option_map (λ at. at + 1) (first_difference wanted bytes) else Some 0) (eq-eqb w byte same)

-- bytes that are the wanted ones at each place don't differ
pub none_differs : (wanted bytes : List ℕ) → length wanted ≤ length bytes → ((k : ℕ) → k < length wanted → get_or bytes k 0 ≡ get_or wanted k 0) → first_difference wanted bytes ≡ None
none_differs [] bytes long same = refl
none_differs (w ∷ wanted) [] long same = absurd (omega arith)
none_differs (w ∷ wanted) (byte ∷ bytes) long same =
    difference_after wanted bytes w byte (sym (same 0 (omega arith)))
    ∙ ap (λ (o : Option ℕ). option_map (λ at. at + 1) o) (none_differs wanted bytes (omega arith) (λ k below. same (suc k) (omega arith)))

-- a place at which they differ, where they don't before it, is the first
pub first_differs : (wanted bytes : List ℕ) (at : ℕ) → length wanted ≤ length bytes → at < length wanted → get_or bytes at 0 ≢ get_or wanted at 0 → ((k : ℕ) → k < at → get_or bytes k 0 ≡ get_or wanted k 0) → first_difference wanted bytes ≡ Some at
first_differs [] bytes at long inside differs same = absurd (omega arith)
first_differs (w ∷ wanted) [] at long inside differs same = absurd (omega arith)
first_differs (w ∷ wanted) (byte ∷ bytes) zero long inside differs same =
    ap (λ (b : Bool). if b then option_map (λ at. at + 1) (first_difference wanted bytes) else Some 0) (ne_eqb w byte (λ h. differs (sym h)))
first_differs (w ∷ wanted) (byte ∷ bytes) (suc at) long inside differs same =
    let next : at + 1 ≡ suc at = omega arith in
    difference_after wanted bytes w byte (sym (same 0 (omega arith)))
    ∙ ap (λ (o : Option ℕ). option_map (λ at. at + 1) o) (first_differs wanted bytes at (omega arith) (omega arith) differs (λ k below. same (suc k) (omega arith)))
    ∙ ap (λ (n : ℕ). Some n) next

-- only as many bytes count as are wanted
pub first_difference-append : (wanted bytes rest : List ℕ) → length wanted ≤ length bytes → first_difference wanted (bytes ++ rest) ≡ first_difference wanted bytes
first_difference-append [] bytes rest long = refl
first_difference-append (w ∷ wanted) [] rest long = absurd (omega arith)
first_difference-append (w ∷ wanted) (byte ∷ bytes) rest long =
    ap (λ (o : Option ℕ). if w == byte then option_map (λ at. at + 1) o else Some 0) (first_difference-append wanted bytes rest (omega arith))

first_difference-take : (n : ℕ) (wanted bytes : List ℕ) → length wanted ≤ n → length wanted ≤ length bytes → first_difference wanted (take n bytes) ≡ first_difference wanted bytes
first_difference-take n [] bytes wide long = refl
first_difference-take zero (w ∷ wanted) bytes wide long = absurd (omega arith)
first_difference-take (suc n) (w ∷ wanted) [] wide long = absurd (omega arith)
first_difference-take (suc n) (w ∷ wanted) (byte ∷ bytes) wide long =
    ap (λ (o : Option ℕ). if w == byte then option_map (λ at. at + 1) o else Some 0) (first_difference-take n wanted bytes (omega arith) (omega arith))

-- filling leaves the first bytes
pub first_difference-padded_to : (n : ℕ) (wanted bytes : List ℕ) → length wanted ≤ n → length wanted ≤ length bytes → first_difference wanted (padded_to n bytes) ≡ first_difference wanted bytes
first_difference-padded_to n wanted bytes wide long =
    first_difference-append wanted (take n bytes) (replicate (n - length bytes) 0) (rw length-take (omega arith)) ∙ first_difference-take n wanted bytes wide long
