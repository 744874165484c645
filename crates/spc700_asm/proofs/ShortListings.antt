-- A listing has at most sixteen bytes for each byte listed.
use Rattle.std.proofs.Common.{◌≡◌, ℕ, zero, suc, ◌+◌, ◌*◌, ◌/◌, ◌≤◌, ◌<◌, Bool, true, false, nat_le, cond, List, [], ◌∷◌, ◌++◌, length, drop, refl, subst, length-append, length-drop, arith}
use Rattle.std.specs.Prelude.{codes, decimal, Option, Some, None}
use Rattle.std.specs.List.{flat_map}
use Rattle.std.specs.Fmt.{digits}
use Rattle.std.proofs.lemmas.Bool.{leb-true}
use Rattle.hex.specs.Hex.{encode_with}
use Rattle.spc700_table.specs.declared.Form.{Form}
use Rattle.spc700_table.specs.declared.Form.TheVariants as form
use Rattle.spc700_table.specs.Cycles.{cycle_map, printed_cycles}
use Rattle.spc700_table.specs.Opcodes.{row_of, columns, operand_bytes, length_of}
use Rattle.spc700_table.specs.Mnemonics.{mnemonic_of}
use Rattle.spc700_asm.specs.declared.instruction.Instruction.{Instruction}
use Rattle.spc700_asm.specs.Patterns.{pattern_of, is_absent}
use Rattle.spc700_asm.specs.Instructions.{instruction_at}
use Rattle.spc700_asm.specs.Listing.{byte_text, operand_text, operand_after, text_of, rest_text, listing_of_first, listing_within, listing}
use Rattle.spc700_asm.proofs.Unrolled.{all_there}
use Rattle.spc700_asm.proofs.NumberTexts.{alike_below}
use Rattle.spc700_asm.proofs.OperandTexts.{FitsSlot}
use Rattle.spc700_asm.proofs.Decoding.{IsShown}
use Rattle.spc700_asm.proofs.TextRead.{own_fits, first_fits, second_fits, room}
use Rattle.spc700_asm.proofs.Encoding.{AreBytes, bytes_dropped, found_at, found_again}

decimal_is_short : (n : ℕ) → n < 16 → length (decimal n ++ []) ≤ 2
unfolding digits
decimal_is_short n below = leb-true _ _ (alike_below 16 (λ n. nat_le (length (decimal n ++ [])) 2) (λ n. true) refl n below)

bit_is_short : (text : List ℕ) → length text ≤ 2 → suc (suc (suc (suc (length text)))) ≤ 10
bit_is_short text short = omega arith

memory_bit_is_short : (text : List ℕ) → length text ≤ 2 → suc (suc (suc (suc (suc (suc (suc (length text))))))) ≤ 16
memory_bit_is_short text short = omega arith

one_less : (n : ℕ) → suc n ≤ 16 → n ≤ 16
one_less n l = omega arith

entry_is_short : (text : List ℕ) → length text ≤ 2 → length text ≤ 4
entry_is_short text short = omega arith

operand_is_short : (f : Form) (n : ℕ) → FitsSlot (pattern_of f).slot n → length (operand_text f n) ≤ 4 + 6 * operand_bytes f
unfolding encode_with
operand_is_short form.None n room = absurd room
operand_is_short form.A n room = leb-true _ _ refl
operand_is_short form.X n room = leb-true _ _ refl
operand_is_short form.Y n room = leb-true _ _ refl
operand_is_short form.Ya n room = leb-true _ _ refl
operand_is_short form.Psw n room = leb-true _ _ refl
operand_is_short form.Sp n room = leb-true _ _ refl
operand_is_short form.Carry n room = leb-true _ _ refl
operand_is_short form.PtrX n room = leb-true _ _ refl
operand_is_short form.PtrY n room = leb-true _ _ refl
operand_is_short form.PtrXInc n room = leb-true _ _ refl
operand_is_short form.Imm n room = leb-true _ _ refl
operand_is_short form.Direct n room = leb-true _ _ refl
operand_is_short form.DirectX n room = leb-true _ _ refl
operand_is_short form.DirectY n room = leb-true _ _ refl
operand_is_short form.IndX n room = leb-true _ _ refl
operand_is_short form.IndY n room = leb-true _ _ refl
operand_is_short form.Upper n room = leb-true _ _ refl
operand_is_short form.Abs n room = leb-true _ _ refl
operand_is_short form.AbsX n room = leb-true _ _ refl
operand_is_short form.AbsY n room = leb-true _ _ refl
operand_is_short form.AbsPtrX n room = leb-true _ _ refl
operand_is_short form.Rel n room = leb-true _ _ refl
operand_is_short form.Bit n room =
    let high : n / 0x2000 < 16 = omega arith in
    one_less _ (memory_bit_is_short (decimal (n / 0x2000) ++ []) (decimal_is_short (n / 0x2000) high))
operand_is_short form.NotBit n room =
    let high : n / 0x2000 < 16 = omega arith in
    memory_bit_is_short (decimal (n / 0x2000) ++ []) (decimal_is_short (n / 0x2000) high)
operand_is_short (form.DirectBit bit) n room = bit_is_short (decimal bit ++ []) (decimal_is_short bit room.1)
operand_is_short (form.Table entry) n room = entry_is_short (decimal entry ++ []) (decimal_is_short entry room)

-- an operand with a blank or a comma before it, where there is one
after_is_short : (mark : ℕ) (f : Form) (next n : ℕ) → own_fits (pattern_of f).slot ≡ true → IsShown (pattern_of f).slot next n → length (operand_after (mark ∷ []) f n) ≤ 5 + 6 * operand_bytes f
after_is_short mark f next n own is = by (is_absent (pattern_of f).slot) refl
  where
    by : (b : Bool) → is_absent (pattern_of f).slot ≡ b → length (cond b [] (mark ∷ operand_text f n)) ≤ 5 + 6 * operand_bytes f
    by true e = omega arith
    by false e = omega (arith, operand_is_short f n (room (pattern_of f).slot next n own is e))

mnemonic_is_short : (opcode : ℕ) → opcode < 256 → length (mnemonic_of (row_of opcode).kind) ≤ 5
unfolding mnemonic_of row_of columns printed_cycles cycle_map
mnemonic_is_short opcode below = leb-true _ _ (alike_below 256 (λ o. nat_le (length (mnemonic_of (row_of o).kind)) 5) (λ o. true) refl opcode below)

joined_length : (name first second more : List ℕ) → length (name ++ first ++ second ++ codes "\n" ++ more) ≡ length name + length first + length second + 1 + length more
joined_length name first second more =
    omega (arith, length-append name first, length-append (name ++ first) second, length-append (name ++ first ++ second) (codes "\n"), length-append (name ++ first ++ second ++ codes "\n") more)

-- the line of an instruction, and what is after it
line_is_short : (at opcode : ℕ) (operands more : List ℕ) → opcode < 256 → AreBytes operands → length_of opcode ≤ length operands + 1 → length (text_of (found_at at opcode operands) ++ codes "\n" ++ more) ≤ 16 * length_of opcode + length more
unfolding text_of
line_is_short at opcode operands more below are there =
    let row = row_of opcode in
    let i = found_at at opcode operands in
    let next = at + length_of opcode in
    let both = found_again at opcode operands are there in
    omega (
      arith,
      mnemonic_is_short opcode below,
      after_is_short 32 row.first next i.first (first_fits opcode below) both.0.first,
      after_is_short 44 row.second next i.second (second_fits opcode below) both.0.second,
      joined_length (mnemonic_of row.kind) (operand_after (codes " ") row.first i.first) (operand_after (codes ",") row.second i.second) more,
    )

-- the line of bytes that are no whole instruction
others_length : (bytes : List ℕ) → length (flat_map (λ byte. codes "," ++ byte_text byte) bytes) ≡ 4 * length bytes
unfolding encode_with
others_length [] = refl
others_length (b ∷ bytes) = omega (arith, others_length bytes)

rest_is_short : (bytes : List ℕ) → length (rest_text bytes) ≤ 16 * length bytes
unfolding encode_with
rest_is_short [] = omega arith
rest_is_short (b ∷ bytes) =
    let others = flat_map (λ byte. codes "," ++ byte_text byte) bytes in
    omega (arith, others_length bytes, length-append others (codes "\n"))

short_first : (most at opcode : ℕ) (operands : List ℕ) → AreBytes (opcode ∷ operands) → length (listing_within most (at + length_of opcode) (drop (length_of opcode) (opcode ∷ operands))) ≤ 16 * length (drop (length_of opcode) (opcode ∷ operands)) → (o : Option Instruction) → instruction_at at (opcode ∷ operands) ≡ o → length (listing_of_first (listing_within most) at (opcode ∷ operands) o) ≤ 16 * length (opcode ∷ operands)
unfolding instruction_at
short_first most at opcode operands are after None is = rest_is_short (opcode ∷ operands)
short_first most at opcode operands are after (Some i) is =
    let bytes = opcode ∷ operands in
    let both = all_there (length operands + 1) (length_of opcode) (found_at at opcode operands) i is in
    let P : Instruction → Type 0 = λ j. length (text_of j ++ codes "\n" ++ listing_within most (at + length_of j.opcode) (drop (length_of j.opcode) bytes)) ≤ 16 * length bytes in
    let line = line_is_short at opcode operands (listing_within most (at + length_of opcode) (drop (length_of opcode) bytes)) are.0 are.1 both.1 in
    subst P both.0 (omega (arith, line, after, both.1, length-drop (length_of opcode) bytes))

short_within : (most at : ℕ) (bytes : List ℕ) → AreBytes bytes → length (listing_within most at bytes) ≤ 16 * length bytes
unfolding instruction_at
short_within zero at bytes are = rest_is_short bytes
short_within (suc most) at [] are = rest_is_short []
short_within (suc most) at (opcode ∷ operands) are =
    short_first most at opcode operands are
    (short_within most (at + length_of opcode) (drop (length_of opcode) (opcode ∷ operands)) (bytes_dropped (length_of opcode) (opcode ∷ operands) are))
    (instruction_at at (opcode ∷ operands)) refl

pub listed_shortly : (bytes : List ℕ) (origin : ℕ) → AreBytes bytes → length (listing origin bytes) ≤ 16 * length bytes
unfolding listing
listed_shortly bytes origin are = short_within (length bytes) origin bytes are
