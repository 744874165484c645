-- The bytes of an instruction that was found are those that it was found in.
use Rattle.std.proofs.Common.{◌≡◌, ℕ, zero, suc, ◌+◌, ◌-◌, ◌*◌, ◌/◌, ◌%◌, ◌≤◌, ◌<◌, Bool, true, false, nat_lt, nat_le, cond, not, List, [], ◌∷◌, ◌++◌, length, take, drop, refl, ap, sym, ◌∙◌, subst, length-drop, arith}
use Rattle.std.specs.Prelude.{◌||◌, ◌&&◌, Option, Some, None, option_and_then}
use Rattle.std.specs.Option.{option_map}
use Rattle.std.specs.List.{AllByRecursion}
use Rattle.std.proofs.lemmas.Bool.Decides.{nat_tests}
use Rattle.std.proofs.lemmas.Bool.{le-ltb, ltb-true, or_from}
use Rattle.std.proofs.Math.Seq.{take-add}
use Rattle.spc700_table.specs.declared.Form.{Form}
use Rattle.spc700_table.specs.declared.OpRow.{OpRow}
use Rattle.spc700_table.specs.Cycles.{cycle_map, printed_cycles}
use Rattle.spc700_table.specs.Opcodes.{row_of, columns, operand_bytes, length_of, is_in_text_order}
use Rattle.spc700_asm.specs.declared.pattern.Slot.{Slot}
use Rattle.spc700_asm.specs.declared.pattern.Slot.TheVariants.{Absent, Register, Byte, Address, Target, MemoryBit, OwnBit, OwnEntry}
use Rattle.spc700_asm.specs.declared.instruction.Instruction.{Instruction}
use Rattle.spc700_asm.specs.Patterns.{Pattern, pattern_of}
use Rattle.spc700_table.specs.Branches.{branch_target}
use Rattle.spc700_asm.specs.Instructions.{distance_ahead, is_near, number_at, bytes_of_number, number_in_line, bytes_of_operand, bytes_of_operands, bytes_of, first_place, second_place, instruction_in}
use Rattle.spc700_asm.specs.Operands.{Operand, is_great}
use Rattle.spc700_asm.specs.Statements.{Code}
use Rattle.spc700_asm.specs.Labels.{Labels}
use Rattle.spc700_asm.specs.Faults.{has_great_operand, has_great_number}
use Rattle.spc700_asm.specs.Assembly.{slot_number, operand_number, instruction_written, is_far_operand, is_far}
use Rattle.spc700_asm.proofs.NumberTexts.{alike_below}
use Rattle.spc700_asm.proofs.Decoding.{slot_bytes, bytes_by_slot, is_target, distance_by_slot, far_by_slot, IsShown, AreShown, made}
use Rattle.spc700_asm.proofs.Expected.{expected, expected_in}

abbrev pub AreBytes : List ℕ → Type 0
AreBytes bytes = AllByRecursion (λ byte. byte < 0x100) bytes

pub bytes_dropped : (n : ℕ) (bytes : List ℕ) → AreBytes bytes → AreBytes (drop n bytes)
bytes_dropped zero bytes are = are
bytes_dropped (suc n) [] are = are
bytes_dropped (suc n) (b ∷ bytes) are = bytes_dropped n bytes are.1

-- the distance of a byte is near, and that byte again
abbrev signed : ℕ → ℕ
signed d = cond (nat_lt d 0x80) d (d + 0xFF00)

near_signed : (d : ℕ) → d < 0x100 → (nat_lt (signed d) 0x80 || nat_le 0xFF80 (signed d)) ≡ true
near_signed d small = by (nat_lt d 0x80) refl
  where
    high : nat_lt d 0x80 ≡ false → nat_lt (d + 0xFF00) 0x80 ≡ false
    high f = grind (arith, nat_tests)

    back : nat_lt d 0x80 ≡ false → nat_le 0xFF80 (d + 0xFF00) ≡ true
    back f = grind (arith, nat_tests)

    by : (b : Bool) → nat_lt d 0x80 ≡ b → (nat_lt (cond b d (d + 0xFF00)) 0x80 || nat_le 0xFF80 (cond b d (d + 0xFF00))) ≡ true
    by true t = rw t refl
    by false f = rw (high f, back f) refl

low_signed : (d : ℕ) → d < 0x100 → signed d % 0x100 ≡ d
low_signed d small = by (nat_lt d 0x80)
  where
    by : (b : Bool) → cond b d (d + 0xFF00) % 0x100 ≡ d
    by true = omega arith
    by false = omega arith

small_signed : (d : ℕ) → d < 0x100 → signed d < 0x10000
small_signed d small = by (nat_lt d 0x80)
  where
    by : (b : Bool) → cond b d (d + 0xFF00) < 0x10000
    by true = omega arith
    by false = omega arith

ahead_of : (next s : ℕ) → s < 0x10000 → ((next + s) % 0x10000 + (0x10000 - next % 0x10000)) % 0x10000 ≡ s
ahead_of next s small = omega arith

ahead_is : (next d : ℕ) → d < 0x100 → distance_ahead next (branch_target next d) ≡ signed d
ahead_is next d small = ahead_of next (signed d) (small_signed d small)

near_is : (next d : ℕ) → d < 0x100 → is_near next (branch_target next d) ≡ true
near_is next d small = ap (λ (a : ℕ). nat_lt a 0x80 || nat_le 0xFF80 a) (ahead_is next d small) ∙ near_signed d small

-- the number of a slot's bytes fills it, and its bytes are those again
abbrev slot_value : Slot → (next : ℕ) → List ℕ → ℕ
slot_value slot next bytes = cond (is_target slot) (branch_target next (number_at (slot_bytes slot) bytes)) (number_at (slot_bytes slot) bytes)

abbrev slot_again : Slot → (next : ℕ) → List ℕ → List ℕ
slot_again slot next bytes = bytes_of_number (slot_bytes slot) (cond (is_target slot) (distance_ahead next (slot_value slot next bytes) % 0x100) (slot_value slot next bytes))

one_again : (b : ℕ) → b < 0x100 → (b + 0x100 * 0) % 0x100 ≡ b
one_again b small = omega arith

one_small : (b : ℕ) → b < 0x100 → b + 0x100 * 0 < 0x100
one_small b small = omega arith

two_low : (b c : ℕ) → b < 0x100 → c < 0x100 → (b + 0x100 * (c + 0x100 * 0)) % 0x100 ≡ b
two_low b c x y = omega arith

two_high : (b c : ℕ) → b < 0x100 → c < 0x100 → (b + 0x100 * (c + 0x100 * 0)) / 0x100 % 0x100 ≡ c
two_high b c x y = omega arith

two_small : (b c : ℕ) → b < 0x100 → c < 0x100 → b + 0x100 * (c + 0x100 * 0) < 0x10000
two_small b c x y = omega arith

target_near : (next b : ℕ) → b < 0x100 → (branch_target next (b + 0x100 * 0) < 0x10000) × (is_near next (branch_target next (b + 0x100 * 0)) ≡ true)
target_near next b small = (omega arith, near_is next (b + 0x100 * 0) (one_small b small))

branch_again : (next b : ℕ) → b < 0x100 → distance_ahead next (branch_target next (b + 0x100 * 0)) % 0x100 % 0x100 ≡ b
branch_again next b small =
    let same : b + 0x100 * 0 ≡ b = omega arith in
    let low : distance_ahead next (branch_target next (b + 0x100 * 0)) % 0x100 ≡ b =
    ap (λ (d : ℕ). distance_ahead next (branch_target next d) % 0x100) same ∙ ap (λ (a : ℕ). a % 0x100) (ahead_is next b small) ∙ low_signed b small
    in ap (λ (a : ℕ). a % 0x100) low ∙ below b small
  where
    below : (n : ℕ) → n < 0x100 → n % 0x100 ≡ n
    below n l = omega arith

slot_found : (slot : Slot) (next : ℕ) (bytes : List ℕ) → AreBytes bytes → slot_bytes slot ≤ length bytes → IsShown slot next (slot_value slot next bytes) × (slot_again slot next bytes ≡ take (slot_bytes slot) bytes)
slot_found Absent next bytes are there = (refl, refl)
slot_found Register next bytes are there = (refl, refl)
slot_found (OwnEntry own) next bytes are there = (refl, refl)
slot_found Byte next [] are there = absurd (omega arith)
slot_found Byte next (b ∷ bytes) are there = (one_small b are.0, ap (λ (x : ℕ). x ∷ []) (one_again b are.0))
slot_found (OwnBit own) next [] are there = absurd (omega arith)
slot_found (OwnBit own) next (b ∷ bytes) are there = (one_small b are.0, ap (λ (x : ℕ). x ∷ []) (one_again b are.0))
slot_found Target next [] are there = absurd (omega arith)
slot_found Target next (b ∷ bytes) are there = (target_near next b are.0, ap (λ (x : ℕ). x ∷ []) (branch_again next b are.0))
slot_found Address next [] are there = absurd (omega arith)
slot_found Address next (b ∷ []) are there = absurd (omega arith)
slot_found Address next (b ∷ c ∷ bytes) are there = (two_small b c are.0 are.1.0, ap (λ (x : ℕ). x ∷ ((b + 0x100 * (c + 0x100 * 0)) / 0x100 % 0x100) ∷ []) (two_low b c are.0 are.1.0) ∙ ap (λ (y : ℕ). b ∷ y ∷ []) (two_high b c are.0 are.1.0))
slot_found MemoryBit next [] are there = absurd (omega arith)
slot_found MemoryBit next (b ∷ []) are there = absurd (omega arith)
slot_found MemoryBit next (b ∷ c ∷ bytes) are there = (two_small b c are.0 are.1.0, ap (λ (x : ℕ). x ∷ ((b + 0x100 * (c + 0x100 * 0)) / 0x100 % 0x100) ∷ []) (two_low b c are.0 are.1.0) ∙ ap (λ (y : ℕ). b ∷ y ∷ []) (two_high b c are.0 are.1.0))

-- the same of an operand
operand_found : (f : Form) (next : ℕ) (bytes : List ℕ) → AreBytes bytes → operand_bytes f ≤ length bytes → IsShown (pattern_of f).slot next (number_in_line f next (number_at (operand_bytes f) bytes)) × (bytes_of_operand f next (number_in_line f next (number_at (operand_bytes f) bytes)) ≡ take (operand_bytes f) bytes)
operand_found f next bytes are there =
    let value : Bool → ℕ → ℕ = λ b n. cond b (branch_target next (number_at n bytes)) (number_at n bytes) in
    let P : Bool → ℕ → Type 0 = λ b n. IsShown (pattern_of f).slot next (value b n) × (bytes_of_number n (cond b (distance_ahead next (value b n) % 0x100) (value b n)) ≡ take n bytes) in
    let Q : ℕ → Type 0 = λ n. n ≤ length bytes in
    let found : P (is_target (pattern_of f).slot) (operand_bytes f) = subst (P (is_target (pattern_of f).slot)) (sym (bytes_by_slot f)) (slot_found (pattern_of f).slot next bytes are (subst Q (bytes_by_slot f) there)) in
    subst (λ (b : Bool). P b (operand_bytes f)) (sym (distance_by_slot f)) found

joined_again : (b : Bool) (n m : ℕ) (bytes one two : List ℕ) → one ≡ take n (drop (cond b 0 m) bytes) → two ≡ take m (drop (cond b n 0) bytes) → cond b (one ++ two) (two ++ one) ≡ take (n + m) bytes
joined_again true n m bytes one two x y = ap (λ (t : List ℕ). t ++ two) x ∙ ap (λ (t : List ℕ). take n bytes ++ t) y ∙ sym (take-add n m bytes)
joined_again false n m bytes one two x y =
    let same : m + n ≡ n + m = omega arith in
    ap (λ (t : List ℕ). two ++ t) x ∙ ap (λ (t : List ℕ). t ++ take n (drop m bytes)) y ∙ sym (take-add m n bytes) ∙ ap (λ (k : ℕ). take k bytes) same

first_there : (b : Bool) (n m : ℕ) (bytes : List ℕ) → n + m ≤ length bytes → n ≤ length (drop (cond b 0 m) bytes)
first_there true n m bytes there = omega arith
first_there false n m bytes there = omega (arith, length-drop m bytes)

second_there : (b : Bool) (n m : ℕ) (bytes : List ℕ) → n + m ≤ length bytes → m ≤ length (drop (cond b n 0) bytes)
second_there true n m bytes there = omega (arith, length-drop n bytes)
second_there false n m bytes there = omega arith

-- the operands of a row, in either order
operands_found : (opcode : ℕ) (row : OpRow) (next : ℕ) (bytes : List ℕ) → AreBytes bytes → operand_bytes row.first + operand_bytes row.second ≤ length bytes →
    let i = instruction_in opcode row next bytes in AreShown row next i.first i.second × (bytes_of_operands row next i.first i.second ≡ take (operand_bytes row.first + operand_bytes row.second) bytes)
operands_found opcode row next bytes are there =
    let b = is_in_text_order row in
    let one = operand_found row.first next (drop (first_place row) bytes) (bytes_dropped (first_place row) bytes are) (first_there b (operand_bytes row.first) (operand_bytes row.second) bytes there) in
    let two = operand_found row.second next (drop (second_place row) bytes) (bytes_dropped (second_place row) bytes are) (second_there b (operand_bytes row.first) (operand_bytes row.second) bytes there) in
    (record { first = one.0; second = two.0 }, joined_again b (operand_bytes row.first) (operand_bytes row.second) bytes _ _ one.1 two.1)

-- the instruction of an opcode and the bytes after it at an address
abbrev pub found_at : (at opcode : ℕ) (operands : List ℕ) → Instruction
found_at at opcode operands = instruction_in opcode (row_of opcode) (at + length_of opcode) operands

-- an instruction that was found, and the bytes that it was found in
pub found_again : (at opcode : ℕ) (operands : List ℕ) → AreBytes operands → length_of opcode ≤ length operands + 1 →
    let i = instruction_in opcode (row_of opcode) (at + length_of opcode) operands in
    AreShown (row_of opcode) (at + length_of opcode) i.first i.second × (bytes_of at i ≡ take (length_of opcode) (opcode ∷ operands))
unfolding bytes_of
found_again at opcode operands are there =
    let n = operand_bytes (row_of opcode).first + operand_bytes (row_of opcode).second in
    let count : suc n ≡ length_of opcode = omega arith in
    let both = operands_found opcode (row_of opcode) (at + length_of opcode) operands are (omega arith) in
    (both.0, ap (λ (t : List ℕ). opcode ∷ t) both.1 ∙ ap (λ (k : ℕ). take k (opcode ∷ operands)) count)

-- the number of an operand by its slot, and whether it is above its greatest
abbrev number_in : Labels → Slot → Option Operand → Option ℕ
number_in labels slot None = Some 0
number_in labels slot (Some operand) = slot_number labels slot operand.value operand.bit

abbrev great_in : Slot → Option Operand → Bool
great_in slot None = false
great_in slot (Some operand) = is_great slot operand.value operand.bit

-- the numbers of the operands that are expected are those of the instruction
number_of_expected : (labels : Labels) (slot : Slot) (pattern : Pattern) (next n : ℕ) → IsShown slot next n → number_in labels slot (expected_in slot pattern n) ≡ Some n
number_of_expected labels Absent pattern next n is = ap Some (sym is)
number_of_expected labels Register pattern next n is = ap Some (sym is)
number_of_expected labels Byte pattern next n is = refl
number_of_expected labels Address pattern next n is = refl
number_of_expected labels Target pattern next n is = refl
number_of_expected labels MemoryBit pattern next n is = ap Some (whole n)
  where
    whole : (n : ℕ) → n % 0x2000 + 0x2000 * (n / 0x2000) ≡ n
    whole n = omega arith
number_of_expected labels (OwnBit own) pattern next n is = refl
number_of_expected labels (OwnEntry own) pattern next n is = ap Some (sym is)

-- an opcode's own numbers have their greatest
abbrev own_is_small : Slot → Bool
own_is_small Absent = true
own_is_small Register = true
own_is_small Byte = true
own_is_small Address = true
own_is_small Target = true
own_is_small MemoryBit = true
own_is_small (OwnBit own) = nat_lt own 8
own_is_small (OwnEntry own) = nat_lt own 16

expected_is_small : (slot : Slot) (pattern : Pattern) (next n : ℕ) → own_is_small slot ≡ true → IsShown slot next n → great_in slot (expected_in slot pattern n) ≡ false
expected_is_small Absent pattern next n own is = refl
expected_is_small Register pattern next n own is = refl
expected_is_small Byte pattern next n own is = le-ltb 0xFF n (omega arith)
expected_is_small Address pattern next n own is = le-ltb 0xFFFF n (omega arith)
expected_is_small Target pattern next n own is = le-ltb 0xFFFF n (omega (arith, is.0))
expected_is_small MemoryBit pattern next n own is = or_from _ _ (le-ltb 0x1FFF (n % 0x2000) (omega arith)) (le-ltb 7 (n / 0x2000) (omega arith))
expected_is_small (OwnBit bit) pattern next n own is = or_from _ _ (le-ltb 0xFF n (omega arith)) (le-ltb 7 bit (omega (arith, ltb-true bit 8 own)))
expected_is_small (OwnEntry entry) pattern next n own is = le-ltb 15 entry (omega (arith, ltb-true entry 16 own))

not_far : (slot : Slot) (next n : ℕ) → IsShown slot next n → (is_target slot && not (is_near next n)) ≡ false
not_far Absent next n is = refl
not_far Register next n is = refl
not_far Byte next n is = refl
not_far Address next n is = refl
not_far Target next n is = ap not is.1
not_far MemoryBit next n is = refl
not_far (OwnBit own) next n is = refl
not_far (OwnEntry own) next n is = refl

number_by : (labels : Labels) (f : Form) (o : Option Operand) → operand_number labels f o ≡ number_in labels (pattern_of f).slot o
number_by labels f None = refl
number_by labels f (Some operand) = refl

great_by : (f : Form) (o : Option Operand) → has_great_operand f o ≡ great_in (pattern_of f).slot o
great_by f None = refl
great_by f (Some operand) = refl

first_own : (opcode : ℕ) → opcode < 256 → own_is_small (pattern_of (row_of opcode).first).slot ≡ true
unfolding row_of columns printed_cycles cycle_map
first_own opcode below = alike_below 256 (λ o. own_is_small (pattern_of (row_of o).first).slot) (λ o. true) refl opcode below

second_own : (opcode : ℕ) → opcode < 256 → own_is_small (pattern_of (row_of opcode).second).slot ≡ true
unfolding row_of columns printed_cycles cycle_map
second_own opcode below = alike_below 256 (λ o. own_is_small (pattern_of (row_of o).second).slot) (λ o. true) refl opcode below

-- the instruction that the operands of a text write
pub expected_is_written : (labels : Labels) (opcode next n m : ℕ) → AreShown (row_of opcode) next n m → instruction_written labels opcode (expected (row_of opcode).first n) (expected (row_of opcode).second m) ≡ Some (made opcode n m)
unfolding instruction_written
expected_is_written labels opcode next n m are =
    let f = (row_of opcode).first in
    let g = (row_of opcode).second in
    let one = number_by labels f (expected f n) ∙ number_of_expected labels (pattern_of f).slot (pattern_of f) next n are.first in
    let two = number_by labels g (expected g m) ∙ number_of_expected labels (pattern_of g).slot (pattern_of g) next m are.second in
    ap (λ (o : Option ℕ). option_and_then (λ a. option_map (λ b. made opcode a b) (operand_number labels g (expected g m))) o) one
    ∙ ap (λ (o : Option ℕ). option_map (λ b. made opcode n b) o) two

pub expected_is_not_great : (opcode next n m : ℕ) → opcode < 256 → AreShown (row_of opcode) next n m → has_great_number (Code opcode (expected (row_of opcode).first n) (expected (row_of opcode).second m)) ≡ false
expected_is_not_great opcode next n m below are =
    let f = (row_of opcode).first in
    let g = (row_of opcode).second in
    or_from (has_great_operand f (expected f n)) (has_great_operand g (expected g m))
    (great_by f (expected f n) ∙ expected_is_small (pattern_of f).slot (pattern_of f) next n (first_own opcode below) are.first)
    (great_by g (expected g m) ∙ expected_is_small (pattern_of g).slot (pattern_of g) next m (second_own opcode below) are.second)

pub shown_is_near : (at : ℕ) (i : Instruction) → AreShown (row_of i.opcode) (at + length_of i.opcode) i.first i.second → is_far at i ≡ false
shown_is_near at i are =
    let f = (row_of i.opcode).first in
    let g = (row_of i.opcode).second in
    let next = at + length_of i.opcode in
    or_from (is_far_operand f next i.first) (is_far_operand g next i.second) (far_by_slot f next i.first ∙ not_far (pattern_of f).slot next i.first are.first) (far_by_slot g next i.second ∙ not_far (pattern_of g).slot next i.second are.second)
