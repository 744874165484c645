-- An answer that is known, and the refusals that it leaves.
use Rattle.std.proofs.Common.{◌≡◌, ◌⊎◌, inl, inr, Result, Ok, Err}

-- what has an answer is refused for want of memory alone
pub never_refused : {T E : Type 0} (answer : Result T E) (value : T) (why memory : E) → answer ≡ Ok value → (answer ≡ Err why) ⊎ (why ≡ memory) → why ≡ memory
never_refused answer value why memory read (inl refused) = absurd (cc)
never_refused answer value why memory read (inr short) = short
