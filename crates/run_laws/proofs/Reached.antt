-- Where an answer is no refusal, all inputs were reached: one that is refused before the next is read refuses the command.
use Rattle.std.proofs.Common.{◌≡◌, ℕ, Bool, true, false, List, [], ◌∷◌, length, suc, Some, None, refl, ap, if◌then◌else◌}
use Rattle.snd_host.specs.Calls.{Call}
use Rattle.command_runner.specs.Answer.{Answer, refusal_of}
use Rattle.command_runner.specs.NamedInputs.{NamedInput, Held, held_of, TakesInOrder}

abbrev pub IsAnswered : {C : Type 0} → Answer C → Type 0
IsAnswered a = refusal_of a ≡ None

-- An answer that goes on past its inputs: where one that others come after isn't accepted, it is a refusal.
abbrev pub GoesOn : {C : Type 0} → List NamedInput → (Held → Answer C) → Type 0
GoesOn [] answer = Unit {0}
GoesOn (input ∷ []) answer = Unit {0}
GoesOn (input ∷ next ∷ inputs) answer =
    ((bytes : List ℕ) (rest : Held) → input.accepts (Some bytes) ≡ false → IsAnswered (answer (Some bytes ∷ rest)) → ⊥)
    × ((bytes : List ℕ) → input.accepts (Some bytes) ≡ true → GoesOn (next ∷ inputs) (λ rest. answer (Some bytes ∷ rest)))

none_after_last : (b : Bool) (given : List (List ℕ)) (calls : List Call) → TakesInOrder (if b then [] else []) given calls → given ≡ []
none_after_last true given calls takes = takes.0
none_after_last false given calls takes = takes.0

one_more : (bytes : List ℕ) (given : List (List ℕ)) (input : NamedInput) (inputs : List NamedInput) (calls : List Call) → (input.accepts (Some bytes) ≡ false → ⊥) →
    (input.accepts (Some bytes) ≡ true → TakesInOrder inputs given calls → length given ≡ length inputs) →
    (b : Bool) → input.accepts (Some bytes) ≡ b → TakesInOrder (if b then inputs else []) given calls → length (bytes ∷ given) ≡ length (input ∷ inputs)
one_more bytes given input inputs calls not_refused more true is takes = ap (λ (n : ℕ). suc n) (more is takes)
one_more bytes given input inputs calls not_refused more false is takes = absurd (not_refused is)

pub all_reached : {C : Type 0} (inputs : List NamedInput) (answer : Held → Answer C) (given : List (List ℕ)) (taken : List Call) → GoesOn inputs answer → TakesInOrder inputs given taken → IsAnswered (answer (held_of given)) →
    length given ≡ length inputs
all_reached [] answer given taken goes takes answered = ap (λ (l : List (List ℕ)). length l) takes.0
all_reached (input ∷ inputs) answer [] taken goes takes answered = absurd takes
all_reached (input ∷ []) answer (bytes ∷ given) taken goes takes answered =
    ap (λ (l : List (List ℕ)). length (bytes ∷ l)) (none_after_last (input.accepts (Some bytes)) given takes.back takes.does_second)
all_reached (input ∷ next ∷ inputs) answer (bytes ∷ given) taken goes takes answered =
    one_more bytes given input (next ∷ inputs) takes.back (λ is. goes.0 bytes (held_of given) is answered)
    (λ is more. all_reached (next ∷ inputs) (λ rest. answer (Some bytes ∷ rest)) given takes.back (goes.1 bytes is) more answered)
    (input.accepts (Some bytes)) refl takes.does_second
