-- The text of an instruction is read as that instruction.
use Rattle.std.proofs.Common.{◌≡◌, ℕ, ◌/◌, ◌%◌, ◌<◌, true, false, not, List, [], ◌++◌, refl, arith}
use Rattle.std.specs.Prelude.{codes, decimal}
use Rattle.std.specs.Fmt.{digits}
use Rattle.hex.specs.Hex.{encode_with}
use Rattle.spc700_table.specs.declared.Form.{Form}
use Rattle.spc700_table.specs.declared.Form.TheVariants as form
use Rattle.spc700_table.specs.Cycles.{cycle_map, printed_cycles}
use Rattle.spc700_table.specs.Opcodes.{row_of, columns}
use Rattle.spc700_table.specs.Mnemonics.{mnemonic_of}
use Rattle.spc700_asm.specs.Patterns.{pattern_of}
use Rattle.spc700_asm.specs.Listing.{byte_text, word_text, bit_text, operand_text}
use Rattle.spc700_asm.specs.Characters.{capitals}
use Rattle.spc700_asm.proofs.NumberTexts.{alike_below, hex_character}
use Rattle.spc700_asm.proofs.OperandTexts.{FitsSlot}
use Rattle.spc700_asm.proofs.LineTexts.{is_text, fails, is_apart, all_append, IsMnemonic}
use Rattle.std.specs.Str.{bytes_eq}

-- the mnemonic of an opcode
pub mnemonic_is : (opcode : ℕ) → opcode < 256 → IsMnemonic (mnemonic_of (row_of opcode).kind)
unfolding mnemonic_of row_of columns printed_cycles cycle_map
mnemonic_is opcode below = record {
  text = alike_below 256 (λ o. is_text (mnemonic_of (row_of o).kind)) (λ o. true) refl opcode below;
  characters = alike_below 256 (λ o. fails is_apart (mnemonic_of (row_of o).kind)) (λ o. true) refl opcode below;
  capital = alike_below 256 (λ o. capitals (mnemonic_of (row_of o).kind)) (λ o. mnemonic_of (row_of o).kind) refl opcode below;
  byte = alike_below 256 (λ o. bytes_eq (mnemonic_of (row_of o).kind) (codes ".byte")) (λ o. false) refl opcode below;
  word = alike_below 256 (λ o. bytes_eq (mnemonic_of (row_of o).kind) (codes ".word")) (λ o. false) refl opcode below;
}

hex_apart : (d : ℕ) → d < 16 → is_apart (hex_character d) ≡ false
hex_apart d below = alike_below 16 (λ d. is_apart (hex_character d)) (λ d. false) refl d below

pub byte_characters : (b : ℕ) → b < 0x100 → fails is_apart (byte_text b) ≡ true
unfolding encode_with
byte_characters b small =
    let high : b / 16 < 16 = omega arith in
    let low : b % 16 < 16 = omega arith in
    rw (hex_apart (b / 16) high, hex_apart (b % 16) low) refl

word_characters : (w : ℕ) → w < 0x10000 → fails is_apart (word_text w) ≡ true
unfolding encode_with
word_characters w small =
    let a : w / 0x100 / 16 < 16 = omega arith in
    let b : w / 0x100 % 16 < 16 = omega arith in
    let c : w % 0x100 / 16 < 16 = omega arith in
    let d : w % 0x100 % 16 < 16 = omega arith in
    rw (hex_apart (w / 0x100 / 16) a, hex_apart (w / 0x100 % 16) b, hex_apart (w % 0x100 / 16) c, hex_apart (w % 0x100 % 16) d) refl

decimal_characters : (n : ℕ) → n < 16 → fails is_apart (decimal n) ≡ true
unfolding digits
decimal_characters n below = alike_below 16 (λ n. fails is_apart (decimal n)) (λ n. true) refl n below

decimal_text : (n : ℕ) → n < 16 → is_text (decimal n ++ []) ≡ true
unfolding digits
decimal_text n below = alike_below 16 (λ n. is_text (decimal n ++ [])) (λ n. true) refl n below

-- the text before and after a number
around : (before word after : List ℕ) → fails is_apart before ≡ true → fails is_apart word ≡ true → fails is_apart after ≡ true → fails is_apart (before ++ (word ++ after)) ≡ true
around before word after one two three =
    all_append (λ character. not (is_apart character)) before (word ++ after) one (all_append (λ character. not (is_apart character)) word after two three)

small_byte : (n : ℕ) → n % 0x100 < 0x100
small_byte n = omega arith

bit_characters : (text : List ℕ) (bit : ℕ) → fails is_apart text ≡ true → bit < 16 → fails is_apart (text ++ bit_text bit) ≡ true
bit_characters text bit one few = all_append (λ character. not (is_apart character)) text (bit_text bit) one (decimal_characters bit few)

pub operand_text_characters : (f : Form) (n : ℕ) → FitsSlot (pattern_of f).slot n → fails is_apart (operand_text f n) ≡ true
operand_text_characters form.None n room = absurd room
operand_text_characters form.A n room = refl
operand_text_characters form.X n room = refl
operand_text_characters form.Y n room = refl
operand_text_characters form.Ya n room = refl
operand_text_characters form.Psw n room = refl
operand_text_characters form.Sp n room = refl
operand_text_characters form.Carry n room = refl
operand_text_characters form.PtrX n room = refl
operand_text_characters form.PtrY n room = refl
operand_text_characters form.PtrXInc n room = refl
operand_text_characters form.Imm n room = around (codes "#") (byte_text (n % 0x100)) (codes "") refl (byte_characters (n % 0x100) (small_byte n)) refl
operand_text_characters form.Direct n room = around (codes "") (byte_text (n % 0x100)) (codes "") refl (byte_characters (n % 0x100) (small_byte n)) refl
operand_text_characters form.DirectX n room = around (codes "") (byte_text (n % 0x100)) (codes "+X") refl (byte_characters (n % 0x100) (small_byte n)) refl
operand_text_characters form.DirectY n room = around (codes "") (byte_text (n % 0x100)) (codes "+Y") refl (byte_characters (n % 0x100) (small_byte n)) refl
operand_text_characters form.IndX n room = around (codes "[") (byte_text (n % 0x100)) (codes "+X]") refl (byte_characters (n % 0x100) (small_byte n)) refl
operand_text_characters form.IndY n room = around (codes "[") (byte_text (n % 0x100)) (codes "]+Y") refl (byte_characters (n % 0x100) (small_byte n)) refl
operand_text_characters form.Upper n room = around (codes "") (byte_text (n % 0x100)) (codes "") refl (byte_characters (n % 0x100) (small_byte n)) refl
operand_text_characters form.Abs n room = around (codes "!") (word_text n) (codes "") refl (word_characters n room) refl
operand_text_characters form.AbsX n room = around (codes "!") (word_text n) (codes "+X") refl (word_characters n room) refl
operand_text_characters form.AbsY n room = around (codes "!") (word_text n) (codes "+Y") refl (word_characters n room) refl
operand_text_characters form.AbsPtrX n room = around (codes "[!") (word_text n) (codes "+X]") refl (word_characters n room) refl
operand_text_characters form.Rel n room = around (codes "") (word_text n) (codes "") refl (word_characters n room) refl
operand_text_characters form.Bit n room = around (codes "") (word_text (n % 0x2000) ++ bit_text (n / 0x2000)) [] refl (bit_characters (word_text (n % 0x2000)) (n / 0x2000) (word_characters (n % 0x2000) (omega arith)) (omega arith)) refl
operand_text_characters form.NotBit n room = around (codes "/") (word_text (n % 0x2000) ++ bit_text (n / 0x2000)) [] refl (bit_characters (word_text (n % 0x2000)) (n / 0x2000) (word_characters (n % 0x2000) (omega arith)) (omega arith)) refl
operand_text_characters (form.DirectBit bit) n room = around [] (byte_text (n % 0x100) ++ bit_text bit) [] refl (bit_characters (byte_text (n % 0x100)) bit (byte_characters (n % 0x100) (small_byte n)) room.1) refl
operand_text_characters (form.Table entry) n room = around [] (decimal entry) [] refl (decimal_characters entry room) refl

pub operand_text_there : (f : Form) (n : ℕ) → FitsSlot (pattern_of f).slot n → is_text (operand_text f n) ≡ true
operand_text_there form.None n room = absurd room
operand_text_there form.A n room = refl
operand_text_there form.X n room = refl
operand_text_there form.Y n room = refl
operand_text_there form.Ya n room = refl
operand_text_there form.Psw n room = refl
operand_text_there form.Sp n room = refl
operand_text_there form.Carry n room = refl
operand_text_there form.PtrX n room = refl
operand_text_there form.PtrY n room = refl
operand_text_there form.PtrXInc n room = refl
operand_text_there form.Imm n room = refl
operand_text_there form.Direct n room = refl
operand_text_there form.DirectX n room = refl
operand_text_there form.DirectY n room = refl
operand_text_there form.IndX n room = refl
operand_text_there form.IndY n room = refl
operand_text_there form.Upper n room = refl
operand_text_there form.Abs n room = refl
operand_text_there form.AbsX n room = refl
operand_text_there form.AbsY n room = refl
operand_text_there form.AbsPtrX n room = refl
operand_text_there form.Rel n room = refl
operand_text_there form.Bit n room = refl
operand_text_there form.NotBit n room = refl
operand_text_there (form.DirectBit bit) n room = refl
operand_text_there (form.Table entry) n room = decimal_text entry room
