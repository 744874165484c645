-- On what of its inputs a command's answer depends.
use Rattle.std.specs.Prelude.{◌≡◌, ℕ, ◌+◌, true, false, List, [], ◌∷◌, take, Some, None}
use Rattle.command_runner.specs.Answer.{Answer, refused}
use Rattle.command_runner.specs.NamedInputs.{NamedInput, Held}
use Rattle.command_runner.specs.declared.refusals.Refusal.TheVariants.{ReadFault}

-- How an answer depends on the first of its inputs. Whether that is accepted depends on no more of it either.
pub record GoesByFirst {C : Type 0} (input : NamedInput) (answer : Held → Answer C) : Type 0 where
  pub absent : (rest : Held) → answer (None ∷ rest) ≡ refused ReadFault
  pub limited : (bytes : List ℕ) (rest : Held) → answer (Some bytes ∷ rest) ≡ answer (Some (take (input.limit + 1) bytes) ∷ rest)
  pub accepted_limited : (bytes : List ℕ) → input.accepts (Some bytes) ≡ input.accepts (Some (take (input.limit + 1) bytes))
  pub refused_alone : (bytes : List ℕ) (rest others : Held) → input.accepts (Some bytes) ≡ false →
      answer (Some bytes ∷ rest) ≡ answer (Some bytes ∷ others)

-- What a command answers depends on its inputs alone, in their order: it is refused where one isn't there, it depends on no more of one than its limit and one
-- byte, and on none after one that is refused.
abbrev pub GoesBy : {C : Type 0} → List NamedInput → (Held → Answer C) → Type 0
GoesBy [] answer = Unit {0}
GoesBy (input ∷ inputs) answer =
    GoesByFirst input answer × ((bytes : List ℕ) → input.accepts (Some bytes) ≡ true → GoesBy inputs (λ rest. answer (Some bytes ∷ rest)))
