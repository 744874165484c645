-- The first of n numbers that passes a test.
use Rattle.std.proofs.Common.{◌≡◌, ◌∙◌, ap, ℕ, zero, suc, ◌+◌, ◌<◌, ◌≤◌, Option, Some, None, if◌then◌else◌, Bool, true, false, refl, arith, nat_lt}
use Rattle.std.proofs.lemmas.Bool.{ltb-true, ltb-false}
use Rattle.sample_rip.specs.Blocks.{first_of}

-- where none passes there is no first
pub none_passes : (p : ℕ → Bool) (a n : ℕ) → ((k : ℕ) → a ≤ k → k < a + n → p k ≡ false) → first_of p a n ≡ None
none_passes p a zero fails = refl
none_passes p a (suc n) fails =
    let first : p a ≡ false = fails a (omega arith) (omega arith) in
    rw first (none_passes p (a + 1) n (λ k above below. fails k (omega arith) (omega arith)))

one_on : (b : Bool) (p : ℕ → Bool) (a n j : ℕ) → nat_lt a j ≡ b → a ≤ j → p j ≡ true → ((k : ℕ) → a ≤ k → k < j → p k ≡ false)
    → (a + 1 ≤ j → first_of p (a + 1) n ≡ Some j) → first_of p a (suc n) ≡ Some j
one_on true p a n j is above passes fails rest =
    let more : a < j = ltb-true a j is in
    let first : p a ≡ false = fails a (omega arith) more in
    rw first (rest (omega arith))
one_on false p a n j is above passes fails rest =
    let less : j ≤ a = ltb-false a j is in
    let same : a ≡ j = omega arith in
    let first : p a ≡ true = ap p same ∙ passes in
    rw first (ap (λ (n : ℕ). Some n) same)

-- one that passes, where none does before it, is the first
pub first_passes : (p : ℕ → Bool) (a n j : ℕ) → a ≤ j → j < a + n → p j ≡ true → ((k : ℕ) → a ≤ k → k < j → p k ≡ false) → first_of p a n ≡ Some j
first_passes p a zero j above inside passes fails = absurd (omega arith)
first_passes p a (suc n) j above inside passes fails =
    one_on (nat_lt a j) p a n j refl above passes fails (λ on. first_passes p (a + 1) n j on (omega arith) passes (λ k from below. fails k (omega arith) below))

-- what the search for the first one answers says of the numbers that were tried
abbrev pub FirstSays : (p : ℕ → Bool) (a n : ℕ) → Option ℕ → Type 0
FirstSays p a n None = (k : ℕ) → a ≤ k → k < a + n → p k ≡ false
FirstSays p a n (Some j) = (j < a + n) × (p j ≡ true) × ((k : ℕ) → a ≤ k → k < j → p k ≡ false)

fails_from : (b : Bool) (p : ℕ → Bool) (a k : ℕ) → nat_lt a k ≡ b → a ≤ k → p a ≡ false → (a + 1 ≤ k → p k ≡ false) → p k ≡ false
fails_from true p a k is above fails rest =
    let more : a < k = ltb-true a k is in
    rest (omega arith)
fails_from false p a k is above fails rest =
    let less : k ≤ a = ltb-false a k is in
    let same : k ≡ a = omega arith in
    ap p same ∙ fails

after_one : (p : ℕ → Bool) (a n : ℕ) (answer : Option ℕ) → p a ≡ false → FirstSays p (a + 1) n answer → FirstSays p a (suc n) answer
after_one p a n None fails later = λ k above below. fails_from (nat_lt a k) p a k refl above fails (λ on. later k on (omega arith))
after_one p a n (Some j) fails (inside, passes, before) = (
  omega (arith, inside),
  passes,
  λ k above below. fails_from (nat_lt a k) p a k refl above fails (λ on. before k on below),
)

at_one : (b : Bool) (p : ℕ → Bool) (a n : ℕ) → p a ≡ b → FirstSays p (a + 1) n (first_of p (a + 1) n) → FirstSays p a (suc n) (if b then Some a else first_of p (a + 1) n)
at_one true p a n is later = (omega arith, is, λ k above below. absurd (omega (arith, above, below)))
at_one false p a n is later = after_one p a n (first_of p (a + 1) n) is later

-- the search is right
pub first_says : (p : ℕ → Bool) (a n : ℕ) → FirstSays p a n (first_of p a n)
first_says p a zero = λ k above below. absurd (omega (arith, above, below))
first_says p a (suc n) = at_one (p a) p a n refl (first_says p (a + 1) n)
