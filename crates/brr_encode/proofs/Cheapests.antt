-- The cheapest of the headers that were tried.
use Rattle.std.proofs.Common.{◌≡◌, ℕ, ◌+◌, ◌<◌, ◌≤◌, true, false, nat_lt, None, Some, Option, IfSome, IsSomeAnd, refl, sym, ap, ◌∙◌, arith}
use Rattle.std.proofs.lemmas.Bool.Decides.{nat_tests}
use Rattle.brr_encode.specs.Least.{least_place}
use Rattle.brr_encode.specs.EncoderParts.{IsCheapest}
use Rattle.brr_encode.specs.declared.search.Cheapest.{Cheapest}
use Rattle.brr_encode.proofs.Leasts.{least_place-zero, least_place-one, least_place-more, least_place-first}

pub nothing_tried : (f : ℕ → ℕ) → IsCheapest f 0 (record { place = 0; squares = None })
nothing_tried f = record { place = sym (least_place-zero f); none = λ _. refl; some = tt }

-- a header that costs less
cheaper_next : (f : ℕ → ℕ) (n place : ℕ) (least : Option ℕ) (squares : ℕ) → IsCheapest f n (record { place = place; squares = least })
    → squares ≡ f n → IfSome least (λ limit. squares < limit) → IsCheapest f (n + 1) (record { place = n; squares = Some squares })
cheaper_next f n place None squares old is below =
    let start : n ≡ 0 = old.none refl in
    record {
      place = rw start (sym (least_place-one f));
      none = λ e. absurd (cc);
      some = (omega arith, is);
    }
cheaper_next f n place (Some limit) squares old is below =
    let best : limit ≡ f (least_place f n) = old.some.1 ∙ ap f old.place in
    let less : nat_lt (f n) (f (least_place f n)) ≡ true = let h : f n < f (least_place f n) = omega (arith, is, best, below) in grind (arith, nat_tests, h) in
    record {
      place = sym (least_place-more f n ∙ rw less refl);
      none = λ e. absurd (cc);
      some = (omega arith, is);
    }

-- a header that costs as much or more
dearer_next : (f : ℕ → ℕ) (n place : ℕ) (least : Option ℕ) → IsCheapest f n (record { place = place; squares = least })
    → IsSomeAnd least (λ limit. limit ≤ f n) → IsCheapest f (n + 1) (record { place = place; squares = least })
dearer_next f n place None old too_much = absurd too_much
dearer_next f n place (Some limit) old too_much =
    let best : limit ≡ f (least_place f n) = old.some.1 ∙ ap f old.place in
    let more : nat_lt (f n) (f (least_place f n)) ≡ false = let h : f (least_place f n) ≤ f n = omega (arith, best, too_much) in grind (arith, nat_tests, h) in
    record {
      place = old.place ∙ sym (least_place-more f n ∙ rw more refl);
      none = λ e. absurd (cc);
      some = (omega arith, old.some.1);
    }

-- one header more
pub cheapest_next : (f : ℕ → ℕ) (n : ℕ) (old new : Cheapest) (squares : Option ℕ) → IsCheapest f n old
    → IfSome squares (λ squares. squares ≡ f n) → IfSome squares (λ squares. IfSome old.squares (λ limit. squares < limit))
    → (squares ≡ None → IsSomeAnd old.squares (λ limit. limit ≤ f n))
    → IfSome squares (λ squares. new ≡ record { place = n; squares = Some squares }) → (squares ≡ None → new ≡ old)
    → IsCheapest f (n + 1) new
cheapest_next f n old new (Some squares) at is below too_much cheaper same = rw cheaper (cheaper_next f n old.place old.squares squares at is below)
cheapest_next f n old new None at is below too_much cheaper same = rw (same refl) (dearer_next f n old.place old.squares at (too_much refl))

pub cheapest_within : {f : ℕ → ℕ} {n : ℕ} {cheapest : Cheapest} → IsCheapest f n cheapest → 0 < n → cheapest.place < n
cheapest_within {f = f} {n = n} h some = rw h.place ((least_place-first f n some).within)
