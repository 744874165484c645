-- What holds of each kind of call holds of each call that is made for inputs, for outputs and the report, or for a line of complaint.
use Rattle.std.proofs.Common.{◌≡◌, ◌≢◌, ◌⊎◌, inl, inr, ℕ, ◌+◌, ◌≤◌, Bool, true, false, List, [], ◌∷◌, Some, refl, sym, subst, if◌then◌else◌, arith}
use Rattle.std.specs.Prelude.{◌==◌, ◌||◌}
use Rattle.std.specs.List.{AllByRecursion, list_any}
use Rattle.std.proofs.lemmas.Bool.{eqb-true}
use Rattle.snd_host.specs.Calls.{Call, opened, read, created, wrote, finished}
use Rattle.snd_host.specs.Host.{Output}
use Rattle.snd_host.specs.Follows.{AreWrites}
use Rattle.snd_host.specs.Takes.{Takes}
use Rattle.snd_host.proofs.EachCall.{Each, each_as, each_then, each_written}
use Rattle.snd_host.proofs.EachTaken.{each_taken}
use Rattle.command_runner.specs.Answer.{Answer, done, refused}
use Rattle.command_runner.specs.InOrder.{Then}
use Rattle.command_runner.specs.NamedInputs.{NamedInput, TakesInOrder}
use Rattle.command_runner.specs.OutputCalls.{Target, IsWriteTo, numbered, creations, endings, MakesAtOnce, MakesInTurn, MakesAs, Order, at_once, in_turn}
use Rattle.command_runner.specs.RunCalls.{DeliversAnswer}
use Rattle.command_runner.proofs.Woven.{write_to_is}

each_of_both : (P : Call → Type 0) (A B : List Call → Type 0) → Each P A → Each P B → Each P (Then A B)
each_of_both P A B first second calls t = subst (AllByRecursion P) (sym t.split) (each_then P t.front t.back (first t.front t.does_first) (second t.back t.does_second))

-- Calls for inputs: opens and reads.
module _ (P : Call → Type 0) (of_open : (name : List ℕ) (file : ℕ) → P (opened name file)) (of_read : (file room : ℕ) (bytes : List ℕ) → P (read file room bytes)) where
  each_of_rest : (b : Bool) (inputs : List NamedInput) (given : List (List ℕ)) → Each P (TakesInOrder inputs given) → Each P (TakesInOrder (if b then inputs else []) given)
  each_of_rest true inputs given each = each
  each_of_rest false inputs given each = λ calls none. subst (AllByRecursion P) (sym none.1) tt

  pub each_for_inputs : (inputs : List NamedInput) (given : List (List ℕ)) → Each P (TakesInOrder inputs given)
  each_for_inputs [] given = λ calls none. subst (AllByRecursion P) (sym none.1) tt
  each_for_inputs (input ∷ inputs) [] = λ calls wrong. absurd wrong
  each_for_inputs (input ∷ inputs) (bytes ∷ given) =
      each_of_both P (Takes input.name input.limit bytes) (TakesInOrder (if input.accepts (Some bytes) then inputs else []) given) (each_taken P of_open of_read input.name input.limit bytes)
      (each_of_rest (input.accepts (Some bytes)) inputs given (each_for_inputs inputs given))

or_true : (a b : Bool) → (a || b) ≡ true → (a ≡ true) ⊎ (b ≡ true)
or_true true b h = inl h
or_true false b h = inr h

-- The numbers of outputs begin with n.
pub from_first : (n file : ℕ) (outputs : List Output) → list_any (λ target. target.0 == file) (numbered n outputs) ≡ true → n ≤ file
from_first n file [] h = absurd (cc)
from_first n file (o ∷ outputs) h =
    elim (or_true (n == file) (list_any (λ target. target.0 == file) (numbered (n + 1) outputs)) h) [
      | inl is ↦ omega (arith, eqb-true n file is)
      | inr more ↦ omega (arith, from_first (n + 1) file outputs more)
    ]

-- Calls for outputs and the report: creations, endings, and writes of some bytes to the report or to outputs from the first number on.
module _ (P : Call → Type 0) (first : ℕ) (of_create : (name : List ℕ) (file : ℕ) → P (created name file))
    (of_write : (file : ℕ) (bytes : List ℕ) → (file ≡ 0) ⊎ (first ≤ file) → bytes ≢ [] → P (wrote file bytes)) (of_finish : (file : ℕ) → P (finished file)) where
  of_numbered : (n : ℕ) (outputs : List Output) → first ≤ n → (c : Call) → IsWriteTo (numbered n outputs) c → P c
  of_numbered n outputs high = write_to_is (numbered n outputs) P (λ file bytes among some. of_write file bytes (inr (omega (arith, high, from_first n file outputs among))) some)

  each_creation : (n : ℕ) (outputs : List Output) → AllByRecursion P (creations n outputs)
  each_creation n [] = tt
  each_creation n (o ∷ outputs) = (of_create o.name n, each_creation (n + 1) outputs)

  each_ending : (targets : List Target) → AllByRecursion P (endings targets)
  each_ending [] = tt
  each_ending (t ∷ targets) = (of_finish t.0, each_ending targets)

  each_at_once : (n : ℕ) (outputs : List Output) → first ≤ n → Each P (MakesAtOnce n outputs)
  each_at_once n outputs high calls t =
      let rest = t.does_second in
      let woven = each_as (IsWriteTo (numbered n outputs)) P (of_numbered n outputs high) rest.front rest.does_first.each in
      let back = subst (AllByRecursion P) (sym rest.split) (each_then P rest.front rest.back woven (subst (AllByRecursion P) (sym rest.does_second) (each_ending (numbered n outputs)))) in
      subst (AllByRecursion P) (sym t.split) (each_then P t.front t.back (subst (AllByRecursion P) (sym t.does_first) (each_creation n outputs)) back)

  each_in_turn : (n : ℕ) (outputs : List Output) → first ≤ n → Each P (MakesInTurn n outputs)
  each_in_turn n [] high = λ calls none. subst (AllByRecursion P) (sym none) tt
  each_in_turn n (o ∷ outputs) high = each_of_both P (MakesAtOnce n (o ∷ [])) (MakesInTurn (n + 1) outputs) (each_at_once n (o ∷ []) high) (each_in_turn (n + 1) outputs (omega arith))

  each_made : (order : Order) (n : ℕ) (outputs : List Output) → first ≤ n → Each P (MakesAs order n outputs)
  each_made at_once n outputs high = each_at_once n outputs high
  each_made in_turn n outputs high = each_in_turn n outputs high

  pub each_for_outputs : {C : Type 0} (order : Order) (a : Answer C) → Each P (DeliversAnswer order first a)
  each_for_outputs order (done outputs report) =
      each_of_both P (MakesAs order first outputs) (AreWrites 0 report) (each_made order first outputs (omega arith)) (each_written 0 report P (λ piece some. of_write 0 piece (inl refl) some))
  each_for_outputs order (refused why) = λ calls wrong. absurd wrong
