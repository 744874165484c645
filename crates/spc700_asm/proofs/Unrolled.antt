-- A listing is the line of the first instruction and the listing of what is after it.
use Rattle.std.proofs.Common.{◌∙◌, subst, cond, true, false, nat_lt, ◌≡◌, ℕ, zero, suc, ◌+◌, ◌≤◌, List, [], ◌∷◌, ◌++◌, length, drop, refl, ap, arith, length-drop}
use Rattle.std.specs.Prelude.{codes, Option, Some, None}
use Rattle.std.proofs.lemmas.Bool.Decides.{nat_tests}
use Rattle.std.proofs.lemmas.Option.{same_Some}
use Rattle.spc700_table.specs.Opcodes.{row_of, length_of}
use Rattle.spc700_asm.specs.declared.instruction.Instruction.{Instruction}
use Rattle.spc700_asm.specs.Instructions.{instruction_in, instruction_at}
use Rattle.spc700_asm.specs.Listing.{text_of, rest_text, listing_of_first, listing_within, listing}

-- what goes on alike after the first instruction is alike
alike : (f g : (at : ℕ) → List ℕ → List ℕ) (at byte : ℕ) (bytes : List ℕ) → ((next : ℕ) (rest : List ℕ) → length rest ≤ length bytes → f next rest ≡ g next rest) → (o : Option Instruction) → listing_of_first f at (byte ∷ bytes) o ≡ listing_of_first g at (byte ∷ bytes) o
alike f g at byte bytes same None = refl
alike f g at byte bytes same (Some instruction) =
    let count = length_of instruction.opcode in
    let shorter : length (drop count (byte ∷ bytes)) ≤ length bytes = omega (arith, length-drop count (byte ∷ bytes)) in
    ap (λ (after : List ℕ). text_of instruction ++ codes "\n" ++ after) (same (at + count) (drop count (byte ∷ bytes)) shorter)

-- any number of instructions that is large enough gives the same listing
enough : (m n at : ℕ) (bytes : List ℕ) → length bytes ≤ m → length bytes ≤ n → listing_within m at bytes ≡ listing_within n at bytes
unfolding instruction_at
enough zero zero at [] l k = refl
enough zero (suc n) at [] l k = refl
enough (suc m) zero at [] l k = refl
enough (suc m) (suc n) at [] l k = refl
enough zero n at (byte ∷ bytes) l k = absurd (omega arith)
enough (suc m) zero at (byte ∷ bytes) l k = absurd (omega arith)
enough (suc m) (suc n) at (byte ∷ bytes) l k =
    alike (listing_within m) (listing_within n) at byte bytes (λ next rest shorter. enough m n next rest (omega arith) (omega arith)) (instruction_at at (byte ∷ bytes))

pub listing_unrolled : (at : ℕ) (bytes : List ℕ) → listing at bytes ≡ listing_of_first listing at bytes (instruction_at at bytes)
unfolding listing instruction_at
listing_unrolled at [] = refl
listing_unrolled at (byte ∷ bytes) =
    alike (listing_within (length bytes)) listing at byte bytes (λ next rest shorter. enough (length bytes) (length rest) next rest shorter (omega arith)) (instruction_at at (byte ∷ bytes))

listing_by : (at : ℕ) (bytes : List ℕ) (o : Option Instruction) → instruction_at at bytes ≡ o → listing at bytes ≡ listing_of_first listing at bytes o
listing_by at bytes o is = listing_unrolled at bytes ∙ ap (listing_of_first listing at bytes) is

pub listing_at_some : (at : ℕ) (bytes : List ℕ) (i : Instruction) → instruction_at at bytes ≡ Some i → listing at bytes ≡ text_of i ++ codes "\n" ++ listing (at + length_of i.opcode) (drop (length_of i.opcode) bytes)
listing_at_some at bytes i is = listing_by at bytes (Some i) is

pub listing_at_none : (at : ℕ) (bytes : List ℕ) → instruction_at at bytes ≡ None → listing at bytes ≡ rest_text bytes
listing_at_none at bytes is = listing_by at bytes None is

pub all_there : (have count : ℕ) (x i : Instruction) → cond (nat_lt have count) None (Some x) ≡ Some i → (x ≡ i) × (count ≤ have)
all_there have count x i is = elim (nat_lt have count) as (λ b. nat_lt have count ≡ b → cond b None (Some x) ≡ Some i → (x ≡ i) × (count ≤ have)) [
  | true ↦ λ test e. absurd (none_is_some e)
  | false ↦ λ test e. (same_Some _ _ e, le_by test)
] refl is
  where
    none_is_some : None ≡ Some i → ⊥
    none_is_some e = cc

    le_by : nat_lt have count ≡ false → count ≤ have
    le_by test = grind (arith, nat_tests)

-- the bytes of an instruction that was found are there
pub found_is_there : (at : ℕ) (bytes : List ℕ) (i : Instruction) → instruction_at at bytes ≡ Some i → length_of i.opcode ≤ length bytes
unfolding instruction_at
found_is_there at [] i is = absurd (none_is_some is)
  where
    none_is_some : None ≡ Some i → ⊥
    none_is_some e = cc
found_is_there at (opcode ∷ operands) i is =
    let both = all_there (length operands + 1) (length_of opcode) (instruction_in opcode (row_of opcode) (at + length_of opcode) operands) i is in
    let there : length_of opcode ≤ length (opcode ∷ operands) = omega (arith, both.1) in
    subst (λ (j : Instruction). length_of j.opcode ≤ length (opcode ∷ operands)) both.0 there
