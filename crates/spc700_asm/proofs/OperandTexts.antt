-- The text of an operand is read as that operand.
use Rattle.std.proofs.Common.{◌≡◌, ℕ, ◌/◌, ◌%◌, ◌<◌, true, List, [], ◌++◌, refl, ap, ◌∙◌, append-nil, arith}
use Rattle.std.specs.Prelude.{codes, decimal, Some}
use Rattle.std.specs.Option.{option_map}
use Rattle.std.specs.List.{list_all}
use Rattle.spc700_table.specs.declared.Form.{Form}
use Rattle.spc700_table.specs.declared.Form.TheVariants as form
use Rattle.spc700_asm.specs.declared.pattern.Slot.{Slot}
use Rattle.spc700_asm.specs.declared.pattern.Slot.TheVariants.{Absent, Register, Byte, Address, Target, MemoryBit, OwnBit, OwnEntry}
use Rattle.spc700_asm.specs.Patterns.{pattern_of}
use Rattle.spc700_asm.specs.Listing.{byte_text, word_text, bit_text, operand_text}
use Rattle.spc700_asm.specs.Characters.{number_of, is_name}
use Rattle.spc700_asm.specs.Operands.{Plain, Operand, written_of, is_mark, is_value_character, operand_with, operand_after_marks, operand_of}
use Rattle.spc700_asm.proofs.Fronts.{stops, operand_read}
use Rattle.spc700_asm.proofs.NumberTexts.{written_byte, written_word, byte_values, word_values, number_of_decimal, written_decimal, decimal_values, decimal_no_mark}
use Rattle.spc700_asm.proofs.Expected.{expected}

byte_read : (before after : List ℕ) (n : ℕ) → list_all is_mark before ≡ true → stops is_value_character after ≡ true → n < 0x100 → operand_of (before ++ (byte_text (n % 0x100) ++ after)) ≡ operand_with before (Plain n) after
byte_read before after n marks stop small =
    let same : n % 0x100 ≡ n = omega arith in
    ap (λ (k : ℕ). operand_of (before ++ (byte_text k ++ after))) same
    ∙ operand_read before (byte_text n) after (Plain n) marks refl (byte_values n small) stop (written_byte n small)

word_read : (before after : List ℕ) (n : ℕ) → list_all is_mark before ≡ true → stops is_value_character after ≡ true → n < 0x10000 → operand_of (before ++ (word_text n ++ after)) ≡ operand_with before (Plain n) after
word_read before after n marks stop small = operand_read before (word_text n) after (Plain n) marks refl (word_values n small) stop (written_word n small)

abbrev with_bit : List ℕ → ℕ → ℕ → Operand
with_bit before n bit = record { before = before; value = Plain n; bit = Some bit; after = [] }

bit_after : (before : List ℕ) (n bit : ℕ) → bit < 16 → operand_with before (Plain n) (bit_text bit) ≡ Some (with_bit before n bit)
bit_after before n bit small = ap (option_map (with_bit before n)) (number_of_decimal bit small)

memory_bit_read : (before : List ℕ) (n : ℕ) → list_all is_mark before ≡ true → n < 0x10000 → operand_of (before ++ ((word_text (n % 0x2000) ++ bit_text (n / 0x2000)) ++ [])) ≡ Some (with_bit before (n % 0x2000) (n / 0x2000))
memory_bit_read before n marks small =
    let low : n % 0x2000 < 0x10000 = omega arith in
    let high : n / 0x2000 < 16 = omega arith in
    ap (λ (text : List ℕ). operand_of (before ++ text)) (append-nil (word_text (n % 0x2000) ++ bit_text (n / 0x2000)))
    ∙ word_read before (bit_text (n / 0x2000)) (n % 0x2000) marks refl low
    ∙ bit_after before (n % 0x2000) (n / 0x2000) high

own_bit_read : (before : List ℕ) (n bit : ℕ) → list_all is_mark before ≡ true → n < 0x100 → bit < 16 → operand_of (before ++ ((byte_text (n % 0x100) ++ bit_text bit) ++ [])) ≡ Some (with_bit before n bit)
own_bit_read before n bit marks small few =
    ap (λ (text : List ℕ). operand_of (before ++ text)) (append-nil (byte_text (n % 0x100) ++ bit_text bit))
    ∙ byte_read before (bit_text bit) n marks refl small
    ∙ bit_after before n bit few

entry_read : (n : ℕ) → n < 16 → operand_of (decimal n ++ []) ≡ operand_with [] (Plain n) []
entry_read n few = operand_read [] (decimal n) [] (Plain n) refl (decimal_no_mark n few) (decimal_values n few) refl (written_decimal n few)

-- a number that a slot has room for
abbrev pub FitsSlot : Slot → (number : ℕ) → Type 0
FitsSlot Absent number = ⊥
FitsSlot Register number = Unit {0}
FitsSlot Byte number = number < 0x100
FitsSlot Address number = number < 0x10000
FitsSlot Target number = number < 0x10000
FitsSlot MemoryBit number = number < 0x10000
FitsSlot (OwnBit own) number = (number < 0x100) × (own < 16)
FitsSlot (OwnEntry own) number = own < 16

pub operand_text_read : (f : Form) (n : ℕ) → FitsSlot (pattern_of f).slot n → operand_of (operand_text f n) ≡ expected f n
unfolding operand_of operand_after_marks written_of number_of is_name
operand_text_read form.None n room = absurd room
operand_text_read form.A n room = refl
operand_text_read form.X n room = refl
operand_text_read form.Y n room = refl
operand_text_read form.Ya n room = refl
operand_text_read form.Psw n room = refl
operand_text_read form.Sp n room = refl
operand_text_read form.Carry n room = refl
operand_text_read form.PtrX n room = refl
operand_text_read form.PtrY n room = refl
operand_text_read form.PtrXInc n room = refl
operand_text_read form.Imm n room = byte_read (codes "#") (codes "") n refl refl room
operand_text_read form.Direct n room = byte_read (codes "") (codes "") n refl refl room
operand_text_read form.DirectX n room = byte_read (codes "") (codes "+X") n refl refl room
operand_text_read form.DirectY n room = byte_read (codes "") (codes "+Y") n refl refl room
operand_text_read form.IndX n room = byte_read (codes "[") (codes "+X]") n refl refl room
operand_text_read form.IndY n room = byte_read (codes "[") (codes "]+Y") n refl refl room
operand_text_read form.Upper n room = byte_read (codes "") (codes "") n refl refl room
operand_text_read form.Abs n room = word_read (codes "!") (codes "") n refl refl room
operand_text_read form.AbsX n room = word_read (codes "!") (codes "+X") n refl refl room
operand_text_read form.AbsY n room = word_read (codes "!") (codes "+Y") n refl refl room
operand_text_read form.AbsPtrX n room = word_read (codes "[!") (codes "+X]") n refl refl room
operand_text_read form.Rel n room = word_read (codes "") (codes "") n refl refl room
operand_text_read form.Bit n room = memory_bit_read (codes "") n refl room
operand_text_read form.NotBit n room = memory_bit_read (codes "/") n refl room
operand_text_read (form.DirectBit bit) n room = own_bit_read [] n bit refl room.0 room.1
operand_text_read (form.Table entry) n room = entry_read entry room
