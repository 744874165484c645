use Rattle.std.proofs.Common.{rules, ◌≡◌, ◌≢◌, ◌+◌, ◌<◌, ◌==◌, ℕ, Bool, true, false, to_z, of_z, refl, sym, subst, arith}
use Rattle.std.specs.Int.{w16}
use Rattle.std.proofs.lemmas.Bool.Decides.{nat_tests}
use Rattle.num_fix.specs.Arithmetic.{clamp16}
use Rattle.num_fix.specs.SignedWords.{number_at}
use Rattle.batch_rows.proofs.sums.are_limited.Goals as goal

-- a fact of each place below a number, and of that number
one_more : (Fact : ℕ → Type 0) (n : ℕ) → ((i : ℕ) → i < n → Fact i) → Fact n → (i : ℕ) → i < n + 1 → Fact i
one_more Fact n before here i below = by (i == n) refl
  where
    by : (b : Bool) → (i == n) ≡ b → Fact i
    by true e = let same : i ≡ n = grind (arith, nat_tests, e) in subst Fact (sym same) here
    by false e = let other : i ≢ n = grind (arith, nat_tests, e) in before i (omega (arith, below, other))

pub loop-j-init : goal.loop-j-init
loop-j-init c = record { limited = λ i below. absurd (omega (arith, below)) }

pub loop-j-preserved : goal.loop-j-preserved
loop-j-preserved c =
    let j : ℕ = c.loop-j.j in
    let whole : to_z w16 (of_z w16 (number_at c.args.sums.now j)) ≡ number_at c.args.sums.now j = search rules in
    let here : clamp16 (number_at c.args.sums.now j) ≡ number_at c.args.sums.now j = rw whole at c.is_limited.ensures in
    record { limited = one_more (λ i. clamp16 (number_at c.args.sums.now i) ≡ number_at c.args.sums.now i) j c.loop-j.invariant.limited here }

pub returns : goal.returns
returns c j below = c.loop-j.invariant.limited j (omega (arith, below))
