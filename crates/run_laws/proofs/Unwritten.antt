-- Where nothing is written to an output: by the calls that make others.
use Rattle.std.proofs.Common.{◌≡◌, ℕ, ◌+◌, ◌≤◌, ◌<◌, Bool, true, false, List, [], ◌∷◌, ◌++◌, length, refl, sym, ap, ◌∙◌, arith, if◌then◌else◌}
use Rattle.std.specs.Prelude.{◌==◌}
use Rattle.std.specs.List.{AllByRecursion, list_any}
use Rattle.std.proofs.lemmas.Bool.{or_from}
use Rattle.snd_host.specs.Calls.{Call, opened, not_opened, read, not_read, created, not_created, wrote, not_written, finished, not_finished}
use Rattle.snd_host.specs.Host.{Output}
use Rattle.command_runner.specs.OutputCalls.{Target, numbered, IsWriteTo, bytes_to, MakesAtOnce, MakesInTurn, MakesAs, Order, at_once, in_turn}
use Rattle.command_runner.proofs.Phases.{bytes_to-creations, bytes_to-endings}
use Rattle.command_runner.proofs.Woven.{bytes_more, other_number}

-- numbers before those of the outputs, and after them
pub lower_number : (file n : ℕ) (outputs : List Output) → file < n → list_any (λ target. target.0 == file) (numbered n outputs) ≡ false
lower_number file n [] low = refl
lower_number file n (o ∷ outputs) low =
    or_from (n == file) (list_any (λ target. target.0 == file) (numbered (n + 1) outputs)) (other_number n file (λ same. absurd (omega (arith, same)))) (lower_number file (n + 1) outputs (omega arith))

pub higher_number : (file n : ℕ) (outputs : List Output) → n + length outputs ≤ file → list_any (λ target. target.0 == file) (numbered n outputs) ≡ false
higher_number file n [] high = refl
higher_number file n (o ∷ outputs) high =
    or_from (n == file) (list_any (λ target. target.0 == file) (numbered (n + 1) outputs)) (other_number n file (λ same. absurd (omega (arith, same)))) (higher_number file (n + 1) outputs (omega arith))

unwritten_by : (file : ℕ) (targets : List Target) (f : ℕ) (bytes more : List ℕ) → list_any (λ target. target.0 == file) targets ≡ false → list_any (λ target. target.0 == f) targets ≡ true →
    (b : Bool) → (f == file) ≡ b → (if b then bytes ++ more else more) ≡ more
unwritten_by file targets f bytes more none is true same =
    let number : f ≡ file = grind arith in
    let both : false ≡ true = sym none ∙ ap (λ (k : ℕ). list_any (λ target. target.0 == k) targets) (sym number) ∙ is in absurd (cc)
unwritten_by file targets f bytes more none is false other = refl

pub bytes_to-unwritten : (file : ℕ) (targets : List Target) (calls : List Call) → list_any (λ target. target.0 == file) targets ≡ false → AllByRecursion (IsWriteTo targets) calls → bytes_to file calls ≡ []
bytes_to-unwritten file targets [] none each = refl
bytes_to-unwritten file targets (wrote f bytes ∷ calls) none each = unwritten_by file targets f bytes (bytes_to file calls) none each.0.0 (f == file) refl ∙ bytes_to-unwritten file targets calls none each.1
bytes_to-unwritten file targets (opened name f ∷ calls) none each = absurd each.0
bytes_to-unwritten file targets (not_opened name ∷ calls) none each = absurd each.0
bytes_to-unwritten file targets (read f room bytes ∷ calls) none each = absurd each.0
bytes_to-unwritten file targets (not_read f room ∷ calls) none each = absurd each.0
bytes_to-unwritten file targets (created name f ∷ calls) none each = absurd each.0
bytes_to-unwritten file targets (not_created name ∷ calls) none each = absurd each.0
bytes_to-unwritten file targets (not_written f piece ∷ calls) none each = absurd each.0
bytes_to-unwritten file targets (finished f ∷ calls) none each = absurd each.0
bytes_to-unwritten file targets (not_finished f ∷ calls) none each = absurd each.0

pub none_after_none : (file : ℕ) (xs ys : List Call) → bytes_to file xs ≡ [] → bytes_to file ys ≡ [] → bytes_to file (xs ++ ys) ≡ []
none_after_none file xs ys first second = bytes_more file xs ys ∙ ap (λ (l : List ℕ). l ++ bytes_to file ys) first ∙ second

pub at_once_unwritten : (file n : ℕ) (outputs : List Output) (calls : List Call) → list_any (λ target. target.0 == file) (numbered n outputs) ≡ false → MakesAtOnce n outputs calls → bytes_to file calls ≡ []
at_once_unwritten file n outputs calls other t =
    let rest = t.does_second in
    ap (bytes_to file) t.split
    ∙ none_after_none file t.front t.back (ap (bytes_to file) t.does_first ∙ bytes_to-creations file n outputs)
    (ap (bytes_to file) rest.split ∙ none_after_none file rest.front rest.back (bytes_to-unwritten file (numbered n outputs) rest.front other rest.does_first.each)
    (ap (bytes_to file) rest.does_second ∙ bytes_to-endings file (numbered n outputs)))

in_turn_unwritten : (file n : ℕ) (outputs : List Output) (calls : List Call) → file < n → MakesInTurn n outputs calls → bytes_to file calls ≡ []
in_turn_unwritten file n [] calls low none = ap (bytes_to file) none
in_turn_unwritten file n (o ∷ outputs) calls low t =
    ap (bytes_to file) t.split
    ∙ none_after_none file t.front t.back (at_once_unwritten file n (o ∷ []) t.front (lower_number file n (o ∷ []) low) t.does_first) (in_turn_unwritten file (n + 1) outputs t.back (omega arith) t.does_second)

-- nothing is written to an output with a number before those that are made
pub makes_unwritten : (order : Order) (file n : ℕ) (outputs : List Output) (calls : List Call) → file < n → MakesAs order n outputs calls → bytes_to file calls ≡ []
makes_unwritten at_once file n outputs calls low made = at_once_unwritten file n outputs calls (lower_number file n outputs low) made
makes_unwritten in_turn file n outputs calls low made = in_turn_unwritten file n outputs calls low made
