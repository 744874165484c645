-- Blanks, names and numbers in a source (own).
use Rattle.std.specs.Prelude.{ℕ, ◌+◌, ◌*◌, ◌==◌, ◌&&◌, ◌||◌, not, nat_lt, nat_le, Bool, List, [], ◌∷◌, length, slice_index, reverse, map, Option, Some, None, option_and_then, if◌then◌else◌}
use Rattle.std.specs.List.{list_all}
use Rattle.std.specs.Char.{is_ascii_digit, is_ascii_alphanumeric, to_ascii_uppercase}
use Rattle.std.specs.Str.{byte}
use Rattle.hex.specs.Hex.{hex_digit_value}
use Rattle.text_form.specs.Decimals.{is_number, decimal_value}

-- a blank: a space, a tab or a carriage return
abbrev pub is_blank : ℕ → Bool
is_blank character = (character == 32) || ((character == 9) || (character == 13))

abbrev pub is_line_feed : ℕ → Bool
is_line_feed character = character == byte "\n"

abbrev pub is_semicolon : ℕ → Bool
is_semicolon character = character == byte ";"

abbrev pub is_colon : ℕ → Bool
is_colon character = character == byte ":"

abbrev pub is_comma : ℕ → Bool
is_comma character = character == byte ","

abbrev pub is_dollar : ℕ → Bool
is_dollar character = character == byte "$"

abbrev pub is_point : ℕ → Bool
is_point character = character == byte "."

-- a text without the blanks that it begins with
abbrev pub without_first_blanks : List ℕ → List ℕ
without_first_blanks [] = []
without_first_blanks (character ∷ characters) = if is_blank character then without_first_blanks characters else character ∷ characters

-- without the blanks at both ends
unfoldable pub trim : List ℕ → List ℕ
trim text = reverse (without_first_blanks (reverse (without_first_blanks text)))

-- letters in capitals
abbrev pub capitals : List ℕ → List ℕ
capitals text = map to_ascii_uppercase text

-- a letter, a digit or `_`
abbrev pub is_name_character : ℕ → Bool
is_name_character character = is_ascii_alphanumeric character || (character == byte "_")

-- the most characters of a name
abbrev pub max_name_characters : ℕ
max_name_characters = 32

-- a name: so many such characters at most and one at least, the first no digit
unfoldable pub is_name : List ℕ → Bool
is_name text =
    nat_lt 0 (length text) && (nat_le (length text) max_name_characters && (not (is_ascii_digit (slice_index text 0)) && list_all is_name_character text))

-- the number of hexadecimal digits, after a number of digits before them
abbrev pub number_of_hex_digits : (number : ℕ) → List ℕ → Option ℕ
number_of_hex_digits number [] = Some number
number_of_hex_digits number (character ∷ characters) =
    option_and_then (λ digit. number_of_hex_digits (number * 16 + digit) characters) (hex_digit_value character)

-- a number of 1 to 4 hexadecimal digits
abbrev pub hex_number : List ℕ → Option ℕ
hex_number digits = if nat_lt 0 (length digits) && nat_le (length digits) 4 then number_of_hex_digits 0 digits else None

-- a number of 1 to 5 decimal digits
abbrev pub decimal_number : List ℕ → Option ℕ
decimal_number digits = if is_number 5 digits then Some (decimal_value digits) else None

-- a number: `$` and 1 to 4 hexadecimal digits, or 1 to 5 decimal digits
unfoldable pub number_of : List ℕ → Option ℕ
number_of [] = None
number_of (character ∷ characters) =
    if is_dollar character then hex_number characters else decimal_number (character ∷ characters)
