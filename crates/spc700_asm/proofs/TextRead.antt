-- The text of an instruction is read as its opcode and its operands.
use Rattle.std.proofs.Common.{◌≡◌, ℕ, ◌<◌, Bool, true, false, not, cond, nat_lt, [], ◌∷◌, ◌++◌, map, refl, ap, sym, ◌∙◌, append_assoc, append-nil}
use Rattle.std.specs.Prelude.{◌&&◌, codes, position, Option, Some, None}
use Rattle.std.specs.Option.{option_map, option_or}
use Rattle.std.specs.List.{range_with_len}
use Rattle.std.proofs.lemmas.Bool.{true≢false, ltb-true}
use Rattle.spc700_table.specs.declared.rows.TheConstants.{ROWS}
use Rattle.spc700_table.specs.declared.Form.{Form}
use Rattle.spc700_table.specs.Cycles.{cycle_map, printed_cycles}
use Rattle.spc700_table.specs.Opcodes.{row_of, columns}
use Rattle.spc700_asm.specs.declared.pattern.Slot.{Slot}
use Rattle.spc700_asm.specs.declared.pattern.Slot.TheVariants.{Absent, Register, Byte, Address, Target, MemoryBit, OwnBit, OwnEntry}
use Rattle.spc700_table.specs.Mnemonics.{mnemonic_of}
use Rattle.spc700_asm.specs.Patterns.{Pattern, pattern_of, is_absent}
use Rattle.spc700_asm.specs.Listing.{operand_text, operand_after, text_of}
use Rattle.spc700_asm.specs.Operands.{Operand}
use Rattle.spc700_asm.specs.Statements.{Code, is_this, is_alike, all_rows, opcode_written, code, statement_of}
use Rattle.spc700_asm.proofs.Decoding.{IsShown, made}
use Rattle.spc700_asm.proofs.NumberTexts.{alike_below}
use Rattle.spc700_asm.proofs.OperandTexts.{FitsSlot, operand_text_read}
use Rattle.spc700_asm.specs.Characters.{is_line_feed}
use Rattle.spc700_asm.proofs.LineTexts.{fails, plain, all_append, line_of_none, line_of_one, line_of_two}
use Rattle.spc700_asm.proofs.TextCharacters.{mnemonic_is, operand_text_characters, operand_text_there}
use Rattle.spc700_asm.proofs.Expected.{expected, expected_in}

rows_are : ROWS ≡ all_rows
unfolding all_rows row_of columns printed_cycles cycle_map
rows_are = refl

found_in : (n m : ℕ) → map (λ o. position (is_this (mnemonic_of (row_of o).kind) (expected (row_of o).first n) (expected (row_of o).second m)) ROWS) (range_with_len 0 256) ≡ map (λ o. Some o) (range_with_len 0 256)
unfolding mnemonic_of row_of columns printed_cycles cycle_map
found_in n m = refl

opcode_is : (opcode n m : ℕ) → opcode < 256 → opcode_written (mnemonic_of (row_of opcode).kind) (expected (row_of opcode).first n) (expected (row_of opcode).second m) ≡ Some opcode
unfolding opcode_written
opcode_is opcode n m below =
    let test = is_this (mnemonic_of (row_of opcode).kind) (expected (row_of opcode).first n) (expected (row_of opcode).second m) in
    let this : position test all_rows ≡ Some opcode =
    ap (position test) (sym rows_are)
    ∙ alike_below 256 (λ o. position (is_this (mnemonic_of (row_of o).kind) (expected (row_of o).first n) (expected (row_of o).second m)) ROWS) (λ o. Some o) (found_in n m) opcode below
    in ap (λ (o : Option ℕ). option_or o (position (is_alike (mnemonic_of (row_of opcode).kind) (expected (row_of opcode).first n) (expected (row_of opcode).second m)) all_rows)) this

-- the numbers that are an opcode's own are small
abbrev pub own_fits : Slot → Bool
own_fits Absent = true
own_fits Register = true
own_fits Byte = true
own_fits Address = true
own_fits Target = true
own_fits MemoryBit = true
own_fits (OwnBit own) = nat_lt own 16
own_fits (OwnEntry own) = nat_lt own 16

pub first_fits : (opcode : ℕ) → opcode < 256 → own_fits (pattern_of (row_of opcode).first).slot ≡ true
unfolding row_of columns printed_cycles cycle_map
first_fits opcode below = alike_below 256 (λ o. own_fits (pattern_of (row_of o).first).slot) (λ o. true) refl opcode below

pub second_fits : (opcode : ℕ) → opcode < 256 → own_fits (pattern_of (row_of opcode).second).slot ≡ true
unfolding row_of columns printed_cycles cycle_map
second_fits opcode below = alike_below 256 (λ o. own_fits (pattern_of (row_of o).second).slot) (λ o. true) refl opcode below

-- there is no second operand without a first
none_alone : (opcode : ℕ) → opcode < 256 → (is_absent (pattern_of (row_of opcode).first).slot && not (is_absent (pattern_of (row_of opcode).second).slot)) ≡ false
unfolding row_of columns printed_cycles cycle_map
none_alone opcode below = alike_below 256 (λ o. is_absent (pattern_of (row_of o).first).slot && not (is_absent (pattern_of (row_of o).second).slot)) (λ o. false) refl opcode below

pub room : (slot : Slot) (next n : ℕ) → own_fits slot ≡ true → IsShown slot next n → is_absent slot ≡ false → FitsSlot slot n
room Absent next n own is there = true≢false there
room Register next n own is there = tt
room Byte next n own is there = is
room Address next n own is there = is
room Target next n own is there = is.0
room MemoryBit next n own is there = is
room (OwnBit bit) next n own is there = (is, ltb-true bit 16 own)
room (OwnEntry entry) next n own is there = ltb-true entry 16 own

nothing_expected : (slot : Slot) (pattern : Pattern) (n : ℕ) → is_absent slot ≡ true → expected_in slot pattern n ≡ None
nothing_expected Absent pattern n e = refl
nothing_expected Register pattern n e = absurd (true≢false (sym e))
nothing_expected Byte pattern n e = absurd (true≢false (sym e))
nothing_expected Address pattern n e = absurd (true≢false (sym e))
nothing_expected Target pattern n e = absurd (true≢false (sym e))
nothing_expected MemoryBit pattern n e = absurd (true≢false (sym e))
nothing_expected (OwnBit bit) pattern n e = absurd (true≢false (sym e))
nothing_expected (OwnEntry entry) pattern n e = absurd (true≢false (sym e))

something_expected : (slot : Slot) (pattern : Pattern) (n : ℕ) → is_absent slot ≡ false → (e : Operand) × (expected_in slot pattern n ≡ Some e)
something_expected Absent pattern n e = absurd (true≢false e)
something_expected Register pattern n e = (_, refl)
something_expected Byte pattern n e = (_, refl)
something_expected Address pattern n e = (_, refl)
something_expected Target pattern n e = (_, refl)
something_expected MemoryBit pattern n e = (_, refl)
something_expected (OwnBit bit) pattern n e = (_, refl)
something_expected (OwnEntry entry) pattern n e = (_, refl)

-- the instruction by its operands' texts
read_by : (opcode n m next : ℕ) → opcode < 256 → IsShown (pattern_of (row_of opcode).first).slot next n → IsShown (pattern_of (row_of opcode).second).slot next m → (a b : Bool) → is_absent (pattern_of (row_of opcode).first).slot ≡ a → is_absent (pattern_of (row_of opcode).second).slot ≡ b → (a && not b) ≡ false →
    statement_of (mnemonic_of (row_of opcode).kind ++ cond a [] (codes " " ++ operand_text (row_of opcode).first n) ++ cond b [] (codes "," ++ operand_text (row_of opcode).second m)) ≡ code (mnemonic_of (row_of opcode).kind) (expected (row_of opcode).first n) (expected (row_of opcode).second m)
read_by opcode n m next below one two true false x y none = absurd (true≢false none)
read_by opcode n m next below one two true true x y none =
    let name = mnemonic_of (row_of opcode).kind in
    ap statement_of (append-nil (name ++ []) ∙ append-nil name)
    ∙ line_of_none name (mnemonic_is opcode below)
    ∙ ap (λ (o : Option Operand). code name o None) (sym (nothing_expected (pattern_of (row_of opcode).first).slot (pattern_of (row_of opcode).first) n x))
    ∙ ap (code name (expected (row_of opcode).first n)) (sym (nothing_expected (pattern_of (row_of opcode).second).slot (pattern_of (row_of opcode).second) m y))
read_by opcode n m next below one two false true x y none =
    let name = mnemonic_of (row_of opcode).kind in
    let f = (row_of opcode).first in
    let has = room (pattern_of f).slot next n (first_fits opcode below) one x in
    let e = something_expected (pattern_of f).slot (pattern_of f) n x in
    ap statement_of (append-nil (name ++ 32 ∷ operand_text f n))
    ∙ line_of_one name (operand_text f n) e.0 (mnemonic_is opcode below) (operand_text_there f n has) (operand_text_characters f n has) (operand_text_read f n has ∙ e.1)
    ∙ ap (λ (o : Option Operand). code name o None) (sym e.1)
    ∙ ap (code name (expected f n)) (sym (nothing_expected (pattern_of (row_of opcode).second).slot (pattern_of (row_of opcode).second) m y))
read_by opcode n m next below one two false false x y none =
    let name = mnemonic_of (row_of opcode).kind in
    let f = (row_of opcode).first in
    let g = (row_of opcode).second in
    let has = room (pattern_of f).slot next n (first_fits opcode below) one x in
    let has2 = room (pattern_of g).slot next m (second_fits opcode below) two y in
    let e = something_expected (pattern_of f).slot (pattern_of f) n x in
    let h = something_expected (pattern_of g).slot (pattern_of g) m y in
    ap statement_of (append_assoc name (32 ∷ operand_text f n) (44 ∷ operand_text g m))
    ∙ line_of_two name (operand_text f n) (operand_text g m) e.0 h.0 (mnemonic_is opcode below) (operand_text_there f n has) (operand_text_characters f n has) (operand_text_read f n has ∙ e.1) (operand_text_characters g m has2) (operand_text_read g m has2 ∙ h.1)
    ∙ ap (λ (o : Option Operand). code name o (Some h.0)) (sym e.1)
    ∙ ap (code name (expected f n)) (sym h.1)

-- the text of an instruction is the instruction of its opcode, with the operands that are expected
pub text_read : (opcode n m next : ℕ) → opcode < 256 → IsShown (pattern_of (row_of opcode).first).slot next n → IsShown (pattern_of (row_of opcode).second).slot next m → statement_of (text_of (made opcode n m)) ≡ Some (Code opcode (expected (row_of opcode).first n) (expected (row_of opcode).second m))
unfolding text_of
text_read opcode n m next below one two =
    read_by opcode n m next below one two (is_absent (pattern_of (row_of opcode).first).slot) (is_absent (pattern_of (row_of opcode).second).slot) refl refl (none_alone opcode below)
    ∙ ap (option_map (λ o. Code o (expected (row_of opcode).first n) (expected (row_of opcode).second m))) (opcode_is opcode n m below)

-- the text of an operand, with a character before it, has no line feed
first_feed : (f : Form) (n next : ℕ) → own_fits (pattern_of f).slot ≡ true → IsShown (pattern_of f).slot next n → (a : Bool) → is_absent (pattern_of f).slot ≡ a → fails is_line_feed (cond a [] (codes " " ++ operand_text f n)) ≡ true
first_feed f n next own is true x = refl
first_feed f n next own is false x = (plain (operand_text f n) (operand_text_characters f n (room (pattern_of f).slot next n own is x))).line_feed

second_feed : (f : Form) (n next : ℕ) → own_fits (pattern_of f).slot ≡ true → IsShown (pattern_of f).slot next n → (a : Bool) → is_absent (pattern_of f).slot ≡ a → fails is_line_feed (cond a [] (codes "," ++ operand_text f n)) ≡ true
second_feed f n next own is true x = refl
second_feed f n next own is false x = (plain (operand_text f n) (operand_text_characters f n (room (pattern_of f).slot next n own is x))).line_feed

pub text_feed : (opcode n m next : ℕ) → opcode < 256 → IsShown (pattern_of (row_of opcode).first).slot next n → IsShown (pattern_of (row_of opcode).second).slot next m → fails is_line_feed (text_of (made opcode n m)) ≡ true
unfolding text_of
text_feed opcode n m next below one two =
    let name = mnemonic_of (row_of opcode).kind in
    let f = (row_of opcode).first in
    let g = (row_of opcode).second in
    let q = λ (character : ℕ). not (is_line_feed character) in
    all_append q (name ++ operand_after (codes " ") f n) (operand_after (codes ",") g m)
    (all_append q name (operand_after (codes " ") f n) (plain name (mnemonic_is opcode below).characters).line_feed (first_feed f n next (first_fits opcode below) one (is_absent (pattern_of f).slot) refl))
    (second_feed g m next (second_fits opcode below) two (is_absent (pattern_of g).slot) refl)
