-- What was assembled is listed as its instructions.
use Rattle.std.proofs.Common.{◌≡◌, ℕ, ◌+◌, ◌*◌, ◌%◌, ◌≤◌, ◌<◌, Bool, true, false, nat_lt, cond, not, List, [], ◌∷◌, ◌++◌, refl, ap, sym, ◌∙◌, subst, append-nil, add-zero, arith}
use Rattle.std.specs.Prelude.{◌&&◌, codes, Option, Some, None, Result, Ok, Err, unwrap_or, option_and_then, option_to_list}
use Rattle.std.specs.Option.{option_map, option_or}
use Rattle.std.specs.List.{flat_map, list_any}
use Rattle.std.specs.Str.{bytes_eq}
use Rattle.std.proofs.lemmas.Bool.Decides.{nat_tests}
use Rattle.std.proofs.lemmas.Grind.{flat_map-append}
use Rattle.std.proofs.lemmas.Bool.{true≢false, or_parts}
use Rattle.std.proofs.lemmas.Option.{same_Some}
use Rattle.spc700_table.specs.declared.Form.{Form}
use Rattle.spc700_table.specs.Opcodes.{row_of, length_of}
use Rattle.spc700_asm.specs.declared.pattern.Slot.{Slot}
use Rattle.spc700_asm.specs.declared.pattern.Slot.TheVariants.{Absent, Register, Byte, Address, Target, MemoryBit, OwnBit, OwnEntry}
use Rattle.spc700_asm.specs.declared.instruction.Instruction.{Instruction}
use Rattle.spc700_asm.specs.declared.refusal.LineFault.{LineFault}
use Rattle.spc700_asm.specs.declared.refusal.LineFault.TheVariants as fault
use Rattle.spc700_asm.specs.Patterns.{pattern_of}
use Rattle.spc700_asm.specs.Instructions.{is_near, bytes_of}
use Rattle.spc700_asm.specs.Listing.{text_of, listing}
use Rattle.spc700_asm.specs.Operands.{Written, Plain, Named, Operand, is_above, is_great}
use Rattle.spc700_asm.specs.Statements.{Statement, Nothing, Name, Bytes, Words, Code}
use Rattle.spc700_asm.specs.Labels.{Labels, label_at, labels_of, size_of_line, value_of}
use Rattle.spc700_asm.specs.Faults.{LineRefusal, has_great_operand, has_great_number, first_refusal}
use Rattle.spc700_asm.specs.Assembly.{number_written, plain_number, slot_number, operand_number, instruction_written, is_far_operand, is_far, instruction_bytes, line_bytes, line_then_lines, bytes_of_lines, unless_refused, lines_of, assembly}
use Rattle.spc700_asm.specs.Names.{IsFine, AreFine}
use Rattle.spc700_asm.specs.Laws.{is_data, instruction_of_line, instructions_of, texts_of}
use Rattle.spc700_asm.proofs.Unrolled.{listing_at_some}
use Rattle.spc700_asm.proofs.LabelsAppend.{value_of_append}
use Rattle.spc700_asm.proofs.Assembled.{assembly_where_fine, lines_are_fine}
use Rattle.spc700_asm.proofs.Decoding.{is_target, far_by_slot, IsShown, AreShown, made, length_of_bytes, instruction_back, drop_front}

-- an instruction before other bytes is listed before them
pub listing_of_instruction : (at : ℕ) (i : Instruction) (rest : List ℕ) → AreShown (row_of i.opcode) (at + length_of i.opcode) i.first i.second → listing at (bytes_of at i ++ rest) ≡ text_of i ++ codes "\n" ++ listing (at + length_of i.opcode) rest
listing_of_instruction at i rest are =
    listing_at_some at (bytes_of at i ++ rest) i (instruction_back at i rest are)
    ∙ ap (λ (after : List ℕ). text_of i ++ codes "\n" ++ listing (at + length_of i.opcode) after) (drop_front (length_of i.opcode) (bytes_of at i) rest (length_of_bytes at i))

-- each name has an address
abbrev pub AreAddresses : Labels → Type 0
AreAddresses labels = (name : List ℕ) (value : ℕ) → value_of labels name ≡ Some value → value < 0x10000

some_or : (a b : Option ℕ) (value : ℕ) → option_or a b ≡ Some value → ((v : ℕ) → a ≡ Some v → v < 0x10000) → ((v : ℕ) → b ≡ Some v → v < 0x10000) → value < 0x10000
some_or None b value is one two = two value is
some_or (Some v) b value is one two = one value is

none_is : (value : ℕ) → ◌≡◌ {A = Option ℕ} None (Some value) → value < 0x10000
none_is value e = absurd (differ e)
  where
    differ : ◌≡◌ {A = Option ℕ} None (Some value) → ⊥
    differ e = cc

label_is_address : (at : ℕ) (line : Option Statement) → AreAddresses (label_at at line)
label_is_address at None name value is = none_is value is
label_is_address at (Some Nothing) name value is = none_is value is
label_is_address at (Some (Bytes numbers)) name value is = none_is value is
label_is_address at (Some (Words words)) name value is = none_is value is
label_is_address at (Some (Code opcode first second)) name value is = none_is value is
label_is_address at (Some (Name label)) name value is = by (bytes_eq name label) is
  where
    by : (b : Bool) → cond b (Some (at % 0x10000)) None ≡ Some value → value < 0x10000
    by true e = let same : at % 0x10000 ≡ value = same_Some _ value e in omega arith
    by false e = none_is value e

pub labels_are_addresses : (at : ℕ) (lines : List (Option Statement)) → AreAddresses (labels_of at lines)
unfolding labels_of
labels_are_addresses at [] name value is = none_is value is
labels_are_addresses at (line ∷ lines) name value is =
    some_or (value_of (label_at at line) name) (value_of (labels_of (at + size_of_line line) lines) name) value
    (sym (value_of_append (label_at at line) (labels_of (at + size_of_line line) lines) name) ∙ is)
    (λ v e. label_is_address at line name v e)
    (λ v e. labels_are_addresses (at + size_of_line line) lines name v e)

-- a written number that isn't too great
plain_small : (greatest : ℕ) (value : Written) → is_above greatest value ≡ false → plain_number value ≤ greatest
plain_small greatest (Plain number) small = grind (arith, nat_tests)
plain_small greatest (Named name) small = omega arith

written_small : (labels : Labels) → AreAddresses labels → (value : Written) (n : ℕ) → number_written labels value ≡ Some n → is_above 0xFFFF value ≡ false → n < 0x10000
written_small labels are (Plain number) n is small =
    let same : number ≡ n = same_Some number n is in
    let below : number ≤ 0xFFFF = grind (arith, nat_tests) in omega arith
written_small labels are (Named name) n is small = are name n is

-- what fills a slot is the number in the line
slot_is_shown : (labels : Labels) → AreAddresses labels → (slot : Slot) (value : Written) (bit : Option ℕ) (next n : ℕ) → slot_number labels slot value bit ≡ Some n → is_great slot value bit ≡ false → ((slot ≡ Target) → is_near next n ≡ true) → IsShown slot next n
slot_is_shown labels are Absent value bit next n is small near = sym (same_Some 0 n is)
slot_is_shown labels are Register value bit next n is small near = sym (same_Some 0 n is)
slot_is_shown labels are Byte value bit next n is small near =
    let same : plain_number value ≡ n = same_Some _ n is in omega (arith, plain_small 0xFF value small)
slot_is_shown labels are Address value bit next n is small near = written_small labels are value n is small
slot_is_shown labels are Target value bit next n is small near = (written_small labels are value n is small, near refl)
slot_is_shown labels are MemoryBit value bit next n is small near =
    let same : plain_number value + 0x2000 * unwrap_or bit 0 ≡ n = same_Some _ n is in
    let both = or_parts (is_above 0x1FFF value) (nat_lt 7 (unwrap_or bit 0)) small in
    let seven : unwrap_or bit 0 ≤ 7 = le (unwrap_or bit 0) both.1 in
    omega (arith, plain_small 0x1FFF value both.0)
  where
    le : (b : ℕ) → nat_lt 7 b ≡ false → b ≤ 7
    le b t = grind (arith, nat_tests)
slot_is_shown labels are (OwnBit own) value bit next n is small near =
    let same : plain_number value ≡ n = same_Some _ n is in
    omega (arith, plain_small 0xFF value (or_parts (is_above 0xFF value) (nat_lt 7 (unwrap_or bit 0)) small).0)
slot_is_shown labels are (OwnEntry own) value bit next n is small near = sym (same_Some 0 n is)

-- no number is 0
zero_is_shown : (slot : Slot) (next n : ℕ) → 0 ≡ n → ((slot ≡ Target) → is_near next n ≡ true) → IsShown slot next n
zero_is_shown Absent next n is near = sym is
zero_is_shown Register next n is near = sym is
zero_is_shown Byte next n is near = omega arith
zero_is_shown Address next n is near = omega arith
zero_is_shown Target next n is near = (omega arith, near refl)
zero_is_shown MemoryBit next n is near = omega arith
zero_is_shown (OwnBit own) next n is near = omega arith
zero_is_shown (OwnEntry own) next n is near = sym is

near_by : (slot : Slot) (near : Bool) → (is_target slot && not near) ≡ false → slot ≡ Target → near ≡ true
near_by slot true far is = refl
near_by slot false far is = absurd (differ (sym (subst (λ (s : Slot). (is_target s && not false) ≡ false) is far)))
  where
    differ : false ≡ true → ⊥
    differ e = cc

operand_is_shown : (labels : Labels) → AreAddresses labels → (f : Form) (o : Option Operand) (next n : ℕ) → operand_number labels f o ≡ Some n → has_great_operand f o ≡ false → is_far_operand f next n ≡ false → IsShown (pattern_of f).slot next n
operand_is_shown labels are f None next n is small far =
    zero_is_shown (pattern_of f).slot next n (same_Some 0 n is) (near_by (pattern_of f).slot (is_near next n) (sym (far_by_slot f next n) ∙ far))
operand_is_shown labels are f (Some operand) next n is small far =
    slot_is_shown labels are (pattern_of f).slot operand.value operand.bit next n is small (near_by (pattern_of f).slot (is_near next n) (sym (far_by_slot f next n) ∙ far))

written_by : (opcode : ℕ) (a b : Option ℕ) (i : Instruction) → option_and_then (λ n. option_map (λ m. made opcode n m) b) a ≡ Some i → (i.opcode ≡ opcode) × (a ≡ Some i.first) × (b ≡ Some i.second)
written_by opcode None b i is = absurd (differ is)
  where
    differ : ◌≡◌ {A = Option Instruction} None (Some i) → ⊥
    differ e = cc
written_by opcode (Some n) None i is = absurd (differ is)
  where
    differ : ◌≡◌ {A = Option Instruction} None (Some i) → ⊥
    differ e = cc
written_by opcode (Some n) (Some m) i is =
    let same = made_is is in
    (ap (λ (j : Instruction). j.opcode) (sym same), ap (λ (j : Instruction). Some j.first) same, ap (λ (j : Instruction). Some j.second) same)
  where
    made_is : ◌≡◌ {A = Option Instruction} (Some (made opcode n m)) (Some i) → made opcode n m ≡ i
    made_is e = cc

instruction_is_written : (labels : Labels) (opcode : ℕ) (first second : Option Operand) (i : Instruction) → instruction_written labels opcode first second ≡ Some i → (i.opcode ≡ opcode) × (operand_number labels (row_of opcode).first first ≡ Some i.first) × (operand_number labels (row_of opcode).second second ≡ Some i.second)
unfolding instruction_written
instruction_is_written labels opcode first second i is =
    written_by opcode (operand_number labels (row_of opcode).first first) (operand_number labels (row_of opcode).second second) i is

-- an instruction that is assembled is listed as it is written
assembled_is_shown : (labels : Labels) → AreAddresses labels → (at opcode : ℕ) (first second : Option Operand) (i : Instruction) → instruction_written labels opcode first second ≡ Some i → has_great_number (Code opcode first second) ≡ false → is_far at i ≡ false → AreShown (row_of i.opcode) (at + length_of i.opcode) i.first i.second
assembled_is_shown labels are at opcode first second i is small far =
    let written = instruction_is_written labels opcode first second i is in
    let smalls = or_parts (has_great_operand (row_of opcode).first first) (has_great_operand (row_of opcode).second second) small in
    let nears = or_parts (is_far_operand (row_of i.opcode).first (at + length_of i.opcode) i.first) (is_far_operand (row_of i.opcode).second (at + length_of i.opcode) i.second) far in
    let P : ℕ → Type 0 = λ code. operand_number labels (row_of code).first first ≡ Some i.first in
    let Q : ℕ → Type 0 = λ code. operand_number labels (row_of code).second second ≡ Some i.second in
    let G : ℕ → Type 0 = λ code. has_great_operand (row_of code).first first ≡ false in
    let H : ℕ → Type 0 = λ code. has_great_operand (row_of code).second second ≡ false in
    let same = sym written.0 in record {
      first = operand_is_shown labels are (row_of i.opcode).first first (at + length_of i.opcode) i.first (subst P same written.1) (subst G same smalls.0) nears.0;
      second = operand_is_shown labels are (row_of i.opcode).second second (at + length_of i.opcode) i.second (subst Q same written.2) (subst H same smalls.1) nears.1;
    }

refused_is_ok : (r : LineRefusal) (b : List ℕ) → ◌≡◌ {A = Result (List ℕ) LineRefusal} (Err r) (Ok b) → ⊥
refused_is_ok r b e = cc

all_is : (a b : List ℕ) → ◌≡◌ {A = Result (List ℕ) LineRefusal} (Ok a) (Ok b) → a ≡ b
all_is a b e = cc

-- the bytes of a line, and those of the lines after it
joined_ok : (number : ℕ) (line : Result (List ℕ) LineFault) (others : Result (List ℕ) LineRefusal) (bytes : List ℕ) → line_then_lines number line others ≡ Ok bytes → (b : List ℕ) × (more : List ℕ) × (line ≡ Ok b) × (others ≡ Ok more) × (bytes ≡ b ++ more)
joined_ok number (Err f) others bytes is = absurd (refused_is_ok _ bytes is)
joined_ok number (Ok b) (Err r) bytes is = absurd (refused_is_ok r bytes is)
joined_ok number (Ok b) (Ok more) bytes is = (b, more, refl, refl, sym (all_is (b ++ more) bytes is))

ok_is : (a b : List ℕ) → ◌≡◌ {A = Result (List ℕ) LineFault} (Ok a) (Ok b) → a ≡ b
ok_is a b e = cc

err_is_ok : (f : LineFault) (b : List ℕ) → ◌≡◌ {A = Result (List ℕ) LineFault} (Err f) (Ok b) → ⊥
err_is_ok f b e = cc

nothing_listed : (at : ℕ) (b more : List ℕ) → [] ≡ b → listing at (b ++ more) ≡ listing (at + 0) more
nothing_listed at b more is =
    ap (λ (front : List ℕ). listing at (front ++ more)) (sym is) ∙ ap (λ (n : ℕ). listing n more) (sym (add-zero at))

one_listed : (at : ℕ) (i : Instruction) (more : List ℕ) (size : ℕ) → length_of i.opcode ≡ size → AreShown (row_of i.opcode) (at + length_of i.opcode) i.first i.second → listing at (bytes_of at i ++ more) ≡ texts_of (i ∷ []) ++ listing (at + size) more
one_listed at i more size is are =
    listing_of_instruction at i more are
    ∙ ap (λ (n : ℕ). text_of i ++ codes "\n" ++ listing (at + n) more) is
    ∙ sym (ap (λ (front : List ℕ). front ++ listing (at + size) more) (append-nil (text_of i ++ codes "\n")))

-- the bytes of a line before others are listed before them
line_listed : (labels : Labels) → AreAddresses labels → (at : ℕ) (line : Option Statement) (b more : List ℕ) → IsFine at line → is_data line ≡ false → line_bytes labels at line ≡ Ok b → listing at (b ++ more) ≡ texts_of (instruction_of_line labels line) ++ listing (at + size_of_line line) more
line_listed labels are at None b more fine code is = absurd fine
line_listed labels are at (Some Nothing) b more fine code is = nothing_listed at b more (ok_is [] b is)
line_listed labels are at (Some (Name name)) b more fine code is = nothing_listed at b more (ok_is [] b is)
line_listed labels are at (Some (Bytes numbers)) b more fine code is = absurd (true≢false code)
line_listed labels are at (Some (Words words)) b more fine code is = absurd (true≢false code)
line_listed labels are at (Some (Code opcode first second)) b more fine code is = by (instruction_written labels opcode first second) refl is
  where
    near : (i : Instruction) (far : Bool) → is_far at i ≡ far → instruction_written labels opcode first second ≡ Some i → cond far (Err fault.Far) (Ok (bytes_of at i)) ≡ Ok b → listing at (b ++ more) ≡ texts_of (i ∷ []) ++ listing (at + length_of opcode) more
    near i true far written e = absurd (err_is_ok fault.Far b e)
    near i false far written e =
        ap (λ (front : List ℕ). listing at (front ++ more)) (sym (ok_is (bytes_of at i) b e))
        ∙ one_listed at i more (length_of opcode) (ap length_of (instruction_is_written labels opcode first second i written).0) (assembled_is_shown labels are at opcode first second i written fine.0 far)

    by : (o : Option Instruction) → instruction_written labels opcode first second ≡ o → instruction_bytes at o ≡ Ok b → listing at (b ++ more) ≡ texts_of (option_to_list o) ++ listing (at + length_of opcode) more
    by None written e = absurd (err_is_ok fault.Name b e)
    by (Some i) written e = near i (is_far at i) refl written e

nothing_left : (at : ℕ) → listing at [] ≡ []
unfolding listing
nothing_left at = refl

relisted : (labels : Labels) → AreAddresses labels → (at number : ℕ) (lines : List (Option Statement)) (bytes : List ℕ) → AreFine at lines → list_any is_data lines ≡ false → bytes_of_lines labels at number lines ≡ Ok bytes → listing at bytes ≡ texts_of (flat_map (instruction_of_line labels) lines)
unfolding bytes_of_lines
relisted labels are at number [] bytes fine code is = ap (listing at) (sym (all_is [] bytes is)) ∙ nothing_left at
relisted labels are at number (line ∷ lines) bytes fine code is =
    let parts = joined_ok number (line_bytes labels at line) (bytes_of_lines labels (at + size_of_line line) (number + 1) lines) bytes is in
    let none = or_parts (is_data line) (list_any is_data lines) code in
    ap (listing at) parts.4
    ∙ line_listed labels are at line parts.0 parts.1 fine.0 none.0 parts.2
    ∙ ap (λ (after : List ℕ). texts_of (instruction_of_line labels line) ++ after) (relisted labels are (at + size_of_line line) (number + 1) lines parts.1 fine.1 none.1 parts.3)
    ∙ sym (flat_map-append (λ (i : Instruction). text_of i ++ codes "\n") (instruction_of_line labels line) (flat_map (instruction_of_line labels) lines))

-- where a source is assembled, none of its lines has one of the first four faults
no_refusal : (source : List ℕ) (origin : ℕ) (bytes : List ℕ) → assembly source origin ≡ Ok bytes → first_refusal origin [] (lines_of source) ≡ None
unfolding assembly
no_refusal source origin bytes is = by (first_refusal origin [] (lines_of source)) is
  where
    by : (o : Option LineRefusal) → unless_refused o (bytes_of_lines (labels_of origin (lines_of source)) origin 1 (lines_of source)) ≡ Ok bytes → o ≡ None
    by None e = refl
    by (Some r) e = absurd (refused_is_ok r bytes e)

pub listed_as_assembled : (source : List ℕ) (origin : ℕ) (bytes : List ℕ) → list_any is_data (lines_of source) ≡ false → assembly source origin ≡ Ok bytes → listing origin bytes ≡ texts_of (instructions_of source origin)
listed_as_assembled source origin bytes code is =
    let none = no_refusal source origin bytes is in
    relisted (labels_of origin (lines_of source)) (labels_are_addresses origin (lines_of source)) origin 1 (lines_of source) bytes
    (lines_are_fine source origin none) code (sym (assembly_where_fine source origin none) ∙ is)
