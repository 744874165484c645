-- The numbers that are written are read as themselves.
use Rattle.std.proofs.Common.{◌≡◌, ℕ, ◌+◌, ◌*◌, ◌/◌, ◌%◌, ◌<◌, true, List, [], ◌++◌, get_or, slice_index, map, refl, ap, sym, ◌∙◌, arith}
use Rattle.std.specs.Prelude.{decimal, Some}
use Rattle.std.specs.List.{list_all, range_with_len}
use Rattle.std.proofs.lemmas.List.FromFn.{get_or-map-range_with_len}
use Rattle.std.specs.Fmt.{digits}
use Rattle.hex.specs.Hex.{lower_digits, encode_with, hex_digit_value}
use Rattle.spc700_asm.specs.Listing.{byte_text, word_text}
use Rattle.spc700_asm.specs.Characters.{number_of}
use Rattle.spc700_asm.specs.Operands.{Plain, written_of, is_mark, is_value_character}
use Rattle.spc700_asm.proofs.Fronts.{stops}

-- what two functions give alike below a bound
pub alike_below : {X : Type 0} (bound : ℕ) (f g : ℕ → X) → map f (range_with_len 0 bound) ≡ map g (range_with_len 0 bound) → (d : ℕ) → d < bound → f d ≡ g d
alike_below bound f g same d below =
    sym (get_or-map-range_with_len f 0 bound d d (f d) below (omega arith))
    ∙ ap (λ (xs : List _). get_or xs d (f d)) same
    ∙ get_or-map-range_with_len g 0 bound d d (f d) below (omega arith)

-- a hexadecimal digit as it is written
abbrev pub hex_character : ℕ → ℕ
hex_character d = slice_index lower_digits d

hex_value : (d : ℕ) → d < 16 → hex_digit_value (hex_character d) ≡ Some d
hex_value d below = alike_below 16 (λ d. hex_digit_value (hex_character d)) (λ d. Some d) refl d below

hex_is_value_character : (d : ℕ) → d < 16 → is_value_character (hex_character d) ≡ true
hex_is_value_character d below = alike_below 16 (λ d. is_value_character (hex_character d)) (λ d. true) refl d below

two : (b : ℕ) → b < 0x100 → (0 * 16 + b / 16) * 16 + b % 16 ≡ b
two b small = omega arith

pub number_of_byte : (b : ℕ) → b < 0x100 → number_of (byte_text b) ≡ Some b
unfolding number_of encode_with
number_of_byte b small =
    let high : b / 16 < 16 = omega arith in
    let low : b % 16 < 16 = omega arith in
    rw (hex_value (b / 16) high, hex_value (b % 16) low) (ap Some (two b small))

four : (w : ℕ) → w < 0x10000 → (((0 * 16 + w / 0x100 / 16) * 16 + w / 0x100 % 16) * 16 + w % 0x100 / 16) * 16 + w % 0x100 % 16 ≡ w
four w small = omega arith

number_of_word : (w : ℕ) → w < 0x10000 → number_of (word_text w) ≡ Some w
unfolding number_of encode_with
number_of_word w small =
    let a : w / 0x100 / 16 < 16 = omega arith in
    let b : w / 0x100 % 16 < 16 = omega arith in
    let c : w % 0x100 / 16 < 16 = omega arith in
    let d : w % 0x100 % 16 < 16 = omega arith in
    rw (hex_value (w / 0x100 / 16) a, hex_value (w / 0x100 % 16) b, hex_value (w % 0x100 / 16) c, hex_value (w % 0x100 % 16) d) (ap Some (four w small))

pub written_byte : (b : ℕ) → b < 0x100 → written_of (byte_text b) ≡ Some (Plain b)
unfolding written_of
written_byte b small = rw (number_of_byte b small) refl

pub written_word : (w : ℕ) → w < 0x10000 → written_of (word_text w) ≡ Some (Plain w)
unfolding written_of
written_word w small = rw (number_of_word w small) refl

pub byte_values : (b : ℕ) → b < 0x100 → list_all is_value_character (byte_text b) ≡ true
unfolding encode_with
byte_values b small =
    let high : b / 16 < 16 = omega arith in
    let low : b % 16 < 16 = omega arith in
    rw (hex_is_value_character (b / 16) high, hex_is_value_character (b % 16) low) refl

pub word_values : (w : ℕ) → w < 0x10000 → list_all is_value_character (word_text w) ≡ true
unfolding encode_with
word_values w small =
    let a : w / 0x100 / 16 < 16 = omega arith in
    let b : w / 0x100 % 16 < 16 = omega arith in
    let c : w % 0x100 / 16 < 16 = omega arith in
    let d : w % 0x100 % 16 < 16 = omega arith in
    rw (hex_is_value_character (w / 0x100 / 16) a, hex_is_value_character (w / 0x100 % 16) b, hex_is_value_character (w % 0x100 / 16) c, hex_is_value_character (w % 0x100 % 16) d) refl

-- decimals below 16
pub number_of_decimal : (n : ℕ) → n < 16 → number_of (decimal n) ≡ Some n
unfolding number_of digits
number_of_decimal n below = alike_below 16 (λ n. number_of (decimal n)) (λ n. Some n) refl n below

pub written_decimal : (n : ℕ) → n < 16 → written_of (decimal n) ≡ Some (Plain n)
unfolding written_of
written_decimal n below = rw (number_of_decimal n below) refl

pub decimal_values : (n : ℕ) → n < 16 → list_all is_value_character (decimal n) ≡ true
unfolding digits
decimal_values n below = alike_below 16 (λ n. list_all is_value_character (decimal n)) (λ n. true) refl n below

pub decimal_no_mark : (n : ℕ) → n < 16 → stops is_mark (decimal n ++ []) ≡ true
unfolding digits
decimal_no_mark n below = alike_below 16 (λ n. stops is_mark (decimal n ++ [])) (λ n. true) refl n below
