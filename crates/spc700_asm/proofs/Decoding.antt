-- The instruction at the front of the bytes of an instruction is that instruction.
use Rattle.std.proofs.Common.{◌≡◌, ℕ, zero, suc, ◌+◌, ◌*◌, ◌/◌, ◌%◌, ◌≤◌, ◌<◌, Bool, true, false, nat_lt, nat_le, cond, List, ◌++◌, length, drop, refl, ap, sym, ◌∙◌, append_assoc, length-append, arith}
use Rattle.std.specs.Prelude.{◌||◌, ◌&&◌, not, Some}
use Rattle.std.proofs.lemmas.Bool.Decides.{nat_tests}
use Rattle.std.proofs.lemmas.Grind.{common_steps}
use Rattle.spc700_table.specs.declared.Form.{Form}
use Rattle.spc700_table.specs.declared.Form.TheVariants as form
use Rattle.spc700_table.specs.declared.OpRow.{OpRow}
use Rattle.spc700_table.specs.Opcodes.{row_of, is_distance, operand_bytes, length_of, is_in_text_order}
use Rattle.spc700_asm.specs.declared.pattern.Slot.{Slot}
use Rattle.spc700_asm.specs.declared.pattern.Slot.TheVariants.{Absent, Register, Byte, Address, Target, MemoryBit, OwnBit, OwnEntry}
use Rattle.spc700_asm.specs.declared.instruction.Instruction.{Instruction}
use Rattle.spc700_asm.specs.Patterns.{pattern_of}
use Rattle.spc700_table.specs.Branches.{branch_target}
use Rattle.spc700_asm.specs.Instructions.{distance_ahead, is_near, number_at, bytes_of_number, number_in_line, number_in_bytes, bytes_of_operand, bytes_of_operands, bytes_of, second_place, instruction_in, instruction_at}
use Rattle.spc700_asm.specs.Assembly.{is_far_operand}

-- how many bytes a slot has
abbrev pub slot_bytes : Slot → ℕ
slot_bytes Absent = 0
slot_bytes Register = 0
slot_bytes Byte = 1
slot_bytes Address = 2
slot_bytes Target = 1
slot_bytes MemoryBit = 2
slot_bytes (OwnBit own) = 1
slot_bytes (OwnEntry own) = 0

pub bytes_by_slot : (f : Form) → operand_bytes f ≡ slot_bytes (pattern_of f).slot
bytes_by_slot form.None = refl
bytes_by_slot form.A = refl
bytes_by_slot form.X = refl
bytes_by_slot form.Y = refl
bytes_by_slot form.Ya = refl
bytes_by_slot form.Psw = refl
bytes_by_slot form.Sp = refl
bytes_by_slot form.Carry = refl
bytes_by_slot form.Imm = refl
bytes_by_slot form.Direct = refl
bytes_by_slot form.DirectX = refl
bytes_by_slot form.DirectY = refl
bytes_by_slot form.Abs = refl
bytes_by_slot form.AbsX = refl
bytes_by_slot form.AbsY = refl
bytes_by_slot form.PtrX = refl
bytes_by_slot form.PtrY = refl
bytes_by_slot form.PtrXInc = refl
bytes_by_slot form.IndX = refl
bytes_by_slot form.IndY = refl
bytes_by_slot form.AbsPtrX = refl
bytes_by_slot form.Bit = refl
bytes_by_slot form.NotBit = refl
bytes_by_slot (form.DirectBit bit) = refl
bytes_by_slot form.Rel = refl
bytes_by_slot form.Upper = refl
bytes_by_slot (form.Table n) = refl

-- the slot of the target of a branch
abbrev pub is_target : Slot → Bool
is_target Target = true
is_target _ = false

pub distance_by_slot : (f : Form) → is_distance f ≡ is_target (pattern_of f).slot
distance_by_slot form.None = refl
distance_by_slot form.A = refl
distance_by_slot form.X = refl
distance_by_slot form.Y = refl
distance_by_slot form.Ya = refl
distance_by_slot form.Psw = refl
distance_by_slot form.Sp = refl
distance_by_slot form.Carry = refl
distance_by_slot form.Imm = refl
distance_by_slot form.Direct = refl
distance_by_slot form.DirectX = refl
distance_by_slot form.DirectY = refl
distance_by_slot form.Abs = refl
distance_by_slot form.AbsX = refl
distance_by_slot form.AbsY = refl
distance_by_slot form.PtrX = refl
distance_by_slot form.PtrY = refl
distance_by_slot form.PtrXInc = refl
distance_by_slot form.IndX = refl
distance_by_slot form.IndY = refl
distance_by_slot form.AbsPtrX = refl
distance_by_slot form.Bit = refl
distance_by_slot form.NotBit = refl
distance_by_slot (form.DirectBit bit) = refl
distance_by_slot form.Rel = refl
distance_by_slot form.Upper = refl
distance_by_slot (form.Table n) = refl

pub far_by_slot : (f : Form) (next number : ℕ) → is_far_operand f next number ≡ (is_target (pattern_of f).slot && not (is_near next number))
far_by_slot f next number = ap (λ (b : Bool). b && not (is_near next number)) (distance_by_slot f)

-- a number that fills a slot before an address
abbrev pub IsShown : Slot → (next number : ℕ) → Type 0
IsShown Absent next number = number ≡ 0
IsShown Register next number = number ≡ 0
IsShown Byte next number = number < 0x100
IsShown Address next number = number < 0x10000
IsShown Target next number = (number < 0x10000) × (is_near next number ≡ true)
IsShown MemoryBit next number = number < 0x10000
IsShown (OwnBit own) next number = number < 0x100
IsShown (OwnEntry own) next number = number ≡ 0

-- the distance that is distance_ahead leads to the target
leads : (next target a : ℕ) → target < 0x10000 → a ≡ distance_ahead next target → (next + a) % 0x10000 ≡ target
leads next target a small is = omega arith

-- the byte of a near distance, with its character
near_byte : (a : ℕ) → a < 0x10000 → (nat_lt a 0x80 || nat_le 0xFF80 a) ≡ true → cond (nat_lt (a % 0x100) 0x80) (a % 0x100) (a % 0x100 + 0xFF00) ≡ a
near_byte a small near = by (nat_lt a 0x80) refl near
  where
    ahead_is : nat_lt a 0x80 ≡ true → a % 0x100 ≡ a
    ahead_is t = grind (arith, nat_tests)

    back_test : nat_lt a 0x80 ≡ false → nat_le 0xFF80 a ≡ true → nat_lt (a % 0x100) 0x80 ≡ false
    back_test f t = grind (arith, nat_tests)

    back_is : nat_lt a 0x80 ≡ false → nat_le 0xFF80 a ≡ true → a % 0x100 + 0xFF00 ≡ a
    back_is f t = grind (arith, nat_tests)

    by : (b : Bool) → nat_lt a 0x80 ≡ b → (b || nat_le 0xFF80 a) ≡ true → cond (nat_lt (a % 0x100) 0x80) (a % 0x100) (a % 0x100 + 0xFF00) ≡ a
    by true t n = rw (ahead_is t, t) refl
    by false f n = rw (back_test f n) (back_is f n)

-- a near target is led to
back_to_target : (next target : ℕ) → target < 0x10000 → is_near next target ≡ true → branch_target next (distance_ahead next target % 0x100) ≡ target
back_to_target next target small near =
    let below : distance_ahead next target < 0x10000 = omega arith in
    ap (λ (a : ℕ). (next + a) % 0x10000) (near_byte (distance_ahead next target) below near) ∙ leads next target (distance_ahead next target) small refl

byte_back : (number : ℕ) → number < 0x100 → number % 0x100 + 0 ≡ number
byte_back number small = omega arith

word_back : (number : ℕ) → number < 0x10000 → number % 0x100 + 0x100 * (number / 0x100 % 0x100 + 0) ≡ number
word_back number small = omega arith

-- the number in the line for the bytes that hold it
slot_shown : (slot : Slot) (next number : ℕ) (rest : List ℕ) → IsShown slot next number → cond (is_target slot) (branch_target next (number_at (slot_bytes slot) (bytes_of_number (slot_bytes slot) (cond (is_target slot) (distance_ahead next number % 0x100) number) ++ rest))) (number_at (slot_bytes slot) (bytes_of_number (slot_bytes slot) (cond (is_target slot) (distance_ahead next number % 0x100) number) ++ rest)) ≡ number
slot_shown Absent next number rest is = sym is
slot_shown Register next number rest is = sym is
slot_shown Byte next number rest is = byte_back number is
slot_shown Address next number rest is = word_back number is
slot_shown Target next number rest is =
    let twice : distance_ahead next number % 0x100 % 0x100 + 0 ≡ distance_ahead next number % 0x100 = omega arith in
    ap (branch_target next) twice ∙ back_to_target next number is.0 is.1
slot_shown MemoryBit next number rest is = word_back number is
slot_shown (OwnBit own) next number rest is = byte_back number is
slot_shown (OwnEntry own) next number rest is = sym is

-- the same of an operand
operand_shown : (f : Form) (next number : ℕ) (rest : List ℕ) → IsShown (pattern_of f).slot next number → number_in_line f next (number_at (operand_bytes f) (bytes_of_operand f next number ++ rest)) ≡ number
operand_shown f next number rest is = rw (distance_by_slot f, bytes_by_slot f) (slot_shown (pattern_of f).slot next number rest is)

-- an operand has so many bytes
number_of_bytes : (count number : ℕ) → length (bytes_of_number count number) ≡ count
number_of_bytes zero number = refl
number_of_bytes (suc count) number = ap suc (number_of_bytes count (number / 0x100))

length_of_operand : (f : Form) (next number : ℕ) → length (bytes_of_operand f next number) ≡ operand_bytes f
length_of_operand f next number = number_of_bytes (operand_bytes f) (number_in_bytes f next number)

-- the numbers of a row's operands, as they stand in a line
pub record AreShown (row : OpRow) (next n m : ℕ) : Type 0 where
  pub first : IsShown (pattern_of row.first).slot next n
  pub second : IsShown (pattern_of row.second).slot next m

pub drop_front : (n : ℕ) (a b : List ℕ) → length a ≡ n → drop n (a ++ b) ≡ b
drop_front n a b is = grind (arith, common_steps)

-- the bytes of the one operand, where those of the other may stand before them
first_found : (b : Bool) (n : ℕ) (own other rest : List ℕ) → length other ≡ n → (more : List ℕ) × (drop (cond b 0 n) (cond b (own ++ other) (other ++ own) ++ rest) ≡ own ++ more)
first_found true n own other rest is = (other ++ rest, append_assoc own other rest)
first_found false n own other rest is = (rest, ap (drop n) (append_assoc other own rest) ∙ drop_front n other (own ++ rest) is)

second_found : (b : Bool) (n : ℕ) (other own rest : List ℕ) → length other ≡ n → (more : List ℕ) × (drop (cond b n 0) (cond b (other ++ own) (own ++ other) ++ rest) ≡ own ++ more)
second_found true n other own rest is = (rest, ap (drop n) (append_assoc other own rest) ∙ drop_front n other (own ++ rest) is)
second_found false n other own rest is = (other ++ rest, append_assoc own other rest)

-- an instruction of an opcode and its operands
abbrev pub made : (opcode n m : ℕ) → Instruction
made opcode n m = record { opcode = opcode; first = n; second = m }

-- the operands after an opcode are those of the instruction
operands_back : (opcode : ℕ) (row : OpRow) (next n m : ℕ) (rest : List ℕ) → AreShown row next n m → instruction_in opcode row next (bytes_of_operands row next n m ++ rest) ≡ made opcode n m
operands_back opcode row next n m rest are =
    let b = is_in_text_order row in
    let one = bytes_of_operand row.first next n in
    let two = bytes_of_operand row.second next m in
    let f = first_found b (operand_bytes row.second) one two rest (length_of_operand row.second next m) in
    let g = second_found b (operand_bytes row.first) one two rest (length_of_operand row.first next n) in
    let first_is = ap (λ (bytes : List ℕ). number_in_line row.first next (number_at (operand_bytes row.first) bytes)) f.1 ∙ operand_shown row.first next n f.0 are.first in
    let second_is = ap (λ (bytes : List ℕ). number_in_line row.second next (number_at (operand_bytes row.second) bytes)) g.1 ∙ operand_shown row.second next m g.0 are.second in
    ap (λ (k : ℕ). made opcode k (number_in_line row.second next (number_at (operand_bytes row.second) (drop (second_place row) (bytes_of_operands row next n m ++ rest))))) first_is
    ∙ ap (made opcode n) second_is

length_of_operands : (row : OpRow) (next n m : ℕ) → length (bytes_of_operands row next n m) ≡ operand_bytes row.first + operand_bytes row.second
length_of_operands row next n m = by (is_in_text_order row) (bytes_of_operand row.first next n) (bytes_of_operand row.second next m) (length_of_operand row.first next n) (length_of_operand row.second next m)
  where
    by : (b : Bool) (one two : List ℕ) → length one ≡ operand_bytes row.first → length two ≡ operand_bytes row.second → length (cond b (one ++ two) (two ++ one)) ≡ operand_bytes row.first + operand_bytes row.second
    by true one two e d = omega (arith, length-append one two)
    by false one two e d = omega (arith, length-append two one)

pub length_of_bytes : (at : ℕ) (i : Instruction) → length (bytes_of at i) ≡ length_of i.opcode
unfolding bytes_of
length_of_bytes at i =
    let operands = length_of_operands (row_of i.opcode) (at + length_of i.opcode) i.first i.second in
    omega (arith, operands)

-- the instruction at the front of its bytes
pub instruction_back : (at : ℕ) (i : Instruction) (rest : List ℕ) → AreShown (row_of i.opcode) (at + length_of i.opcode) i.first i.second → instruction_at at (bytes_of at i ++ rest) ≡ Some i
unfolding bytes_of instruction_at
instruction_back at i rest are =
    let next = at + length_of i.opcode in
    let operands = bytes_of_operands (row_of i.opcode) next i.first i.second in
    let there : nat_lt (length (operands ++ rest) + 1) (length_of i.opcode) ≡ false = enough (length (operands ++ rest) + 1) (length_of i.opcode) (omega (arith, length_of_operands (row_of i.opcode) next i.first i.second, length-append operands rest)) in
    rw there (ap Some (operands_back i.opcode (row_of i.opcode) next i.first i.second rest are))
  where
    enough : (have count : ℕ) → count ≤ have → nat_lt have count ≡ false
    enough have count l = grind (arith, nat_tests)
