-- The line of a record in a trace: text with decimals without leading zeros and hexadecimal numbers in lower case.
use Rattle.std.specs.Prelude.{ℕ, List, ◌++◌, flat_map, codes, decimal, Bool, if◌then◌else◌}
use Rattle.std.specs.Fmt.{signed_decimal}
use Rattle.text_form.specs.Digits.{two_digits, four_digits}
use Rattle.trace_form.specs.declared.record.Record.{Record}
use Rattle.trace_form.specs.declared.record.Record.TheVariants.{Reg, Port, Voice}

-- a letter where something is so, and else a dash
abbrev pub letter_or_dash : Bool → (letter : List ℕ) → List ℕ
letter_or_dash is_so letter = if is_so then letter else codes "-"

-- the line of a record, with its line feed
unfoldable pub line_of : Record → List ℕ
line_of (Reg sample address value) =
    codes "R " ++ decimal sample ++ codes " " ++ two_digits address ++ codes " " ++ two_digits value ++ codes "\n"
line_of (Port sample port value) =
    codes "P " ++ decimal sample ++ codes " " ++ decimal port ++ codes " " ++ two_digits value ++ codes "\n"
line_of (Voice sample voice level out block keyed ended) =
    codes "V " ++ decimal sample ++ codes " " ++ decimal voice ++ codes " " ++ decimal level ++ codes " " ++ signed_decimal out
    ++ codes " " ++ four_digits block ++ codes " " ++ letter_or_dash keyed (codes "k") ++ letter_or_dash ended (codes "l") ++ codes "\n"

-- the text of a trace
abbrev pub lines_of : List Record → List ℕ
lines_of records = flat_map line_of records
