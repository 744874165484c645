-- The laws of the rows, by one computation over the table each.
use Rattle.std.proofs.Common.{◌≡◌, ℕ, ◌+◌, ◌<◌, Bool, true, false, refl, ap, sym, ◌∙◌, arith}
use Rattle.std.specs.Prelude.{List, position, ◌==◌, ◌&&◌, Option, Some, None as NoPlace}
use Rattle.std.specs.List.{range_with_len, list_all}
use Rattle.std.specs.Str.{bytes_eq}
use Rattle.std.proofs.lemmas.Bool.Decides.{nat_tests}
use Rattle.std.proofs.lemmas.Bool.{agree_below, agree_below_at}
use Rattle.std.proofs.lemmas.Option.{same_Some}
use Rattle.spc700_table.specs.declared.rows.TheConstants.{ROWS}
use Rattle.spc700_table.specs.declared.Form.{Form}
use Rattle.spc700_table.specs.declared.Form.TheVariants.{None as NoOperand, A, X, Y, Ya, Psw, Sp, Carry, Imm, Direct, DirectX, DirectY, Abs, AbsX, AbsY, PtrX, PtrY, PtrXInc, IndX, IndY, AbsPtrX, Bit, NotBit, DirectBit, Rel, Upper, Table}
use Rattle.spc700_table.specs.declared.OpRow.{OpRow}
use Rattle.spc700_table.specs.Cycles.{cycle_map, printed_cycles}
use Rattle.spc700_table.specs.Laws.{RowsDiffer, is_in_range, BitsAndEntriesInRange, compares_and_branches, TextOrderOfBranches}
use Rattle.spc700_table.specs.Mnemonics.{mnemonic_of}
use Rattle.spc700_table.specs.Opcodes.{row_of, columns, is_in_text_order}
use Rattle.spc700_table.proofs.Below.{list_all_below}

-- a number for each form
form_number : Form → ℕ
form_number NoOperand = 0
form_number A = 1
form_number X = 2
form_number Y = 3
form_number Ya = 4
form_number Psw = 5
form_number Sp = 6
form_number Carry = 7
form_number Imm = 8
form_number Direct = 9
form_number DirectX = 10
form_number DirectY = 11
form_number Abs = 12
form_number AbsX = 13
form_number AbsY = 14
form_number PtrX = 15
form_number PtrY = 16
form_number PtrXInc = 17
form_number IndX = 18
form_number IndY = 19
form_number AbsPtrX = 20
form_number Bit = 21
form_number NotBit = 22
form_number Rel = 23
form_number Upper = 24
form_number (DirectBit bit) = 100 + bit
form_number (Table entry) = 200 + entry

-- the first row of a mnemonic with operands of such numbers
place : List ℕ → (first second : ℕ) → Option ℕ
place name first second =
    position (λ (row : OpRow). bytes_eq name (mnemonic_of row.kind) && ((form_number row.first == first) && (form_number row.second == second))) ROWS

abbrev place_of : OpRow → Option ℕ
place_of row = place (mnemonic_of row.kind) (form_number row.first) (form_number row.second)

abbrev is_this : ℕ → Option ℕ → Bool
is_this opcode NoPlace = false
is_this opcode (Some at) = at == opcode

each_has_its_place : list_all (λ opcode. is_this opcode (place_of (row_of opcode))) (range_with_len 0 256) ≡ true
unfolding row_of columns printed_cycles cycle_map mnemonic_of place form_number
each_has_its_place = refl

this_place : (opcode : ℕ) (at : Option ℕ) → is_this opcode at ≡ true → at ≡ Some opcode
this_place opcode NoPlace is = absurd (cc)
this_place opcode (Some at) is = let same : at ≡ opcode = grind (arith, nat_tests) in ap Some same

has_its_place : (opcode : ℕ) → opcode < 256 → place_of (row_of opcode) ≡ Some opcode
has_its_place opcode below =
    this_place opcode _ (list_all_below (λ opcode. is_this opcode (place_of (row_of opcode))) 256 opcode each_has_its_place below)

pub rows_differ : RowsDiffer
rows_differ a b inside within name first second =
    let one : place_of (row_of a) ≡ place (mnemonic_of (row_of b).kind) (form_number (row_of a).first) (form_number (row_of a).second) =
    ap (λ (name : List ℕ). place name (form_number (row_of a).first) (form_number (row_of a).second)) name in
    let two : place (mnemonic_of (row_of b).kind) (form_number (row_of a).first) (form_number (row_of a).second)
    ≡ place (mnemonic_of (row_of b).kind) (form_number (row_of b).first) (form_number (row_of a).second) =
    ap (λ (form : Form). place (mnemonic_of (row_of b).kind) (form_number form) (form_number (row_of a).second)) first in
    let three : place (mnemonic_of (row_of b).kind) (form_number (row_of b).first) (form_number (row_of a).second) ≡ place_of (row_of b) =
    ap (λ (form : Form). place (mnemonic_of (row_of b).kind) (form_number (row_of b).first) (form_number form)) second in
    same_Some a b (sym (has_its_place a inside) ∙ one ∙ two ∙ three ∙ has_its_place b within)

all_in_range : list_all (λ opcode. is_in_range (row_of opcode).first && is_in_range (row_of opcode).second) (range_with_len 0 256) ≡ true
unfolding row_of columns printed_cycles cycle_map
all_in_range = refl

pub in_range : BitsAndEntriesInRange
in_range opcode below = list_all_below (λ opcode. is_in_range (row_of opcode).first && is_in_range (row_of opcode).second) 256 opcode all_in_range below

orders_agree : agree_below (λ opcode. is_in_text_order (row_of opcode)) compares_and_branches 256 ≡ true
unfolding row_of columns printed_cycles cycle_map
orders_agree = refl

pub text_order : TextOrderOfBranches
text_order opcode below = agree_below_at (λ opcode. is_in_text_order (row_of opcode)) compares_and_branches 256 opcode orders_agree below
