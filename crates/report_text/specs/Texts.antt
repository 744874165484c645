-- How reports print texts.
use Rattle.std.specs.Prelude.{ℕ, ◌==◌, ◌&&◌, not, List, [], ◌∷◌, ◌++◌, codes, nat_le, if◌then◌else◌}
use Rattle.std.specs.List.{flat_map}
use Rattle.text_form.specs.Digits.{two_digits}

-- a byte of a text: a printable character of ASCII as itself, the backslash and every other byte as `\x` and two digits
abbrev pub shown_byte : ℕ → List ℕ
shown_byte byte = if nat_le 0x20 byte && (nat_le byte 0x7e && not (byte == 0x5c)) then byte ∷ [] else codes "\\x" ++ two_digits byte

abbrev pub shown_text : List ℕ → List ℕ
shown_text text = flat_map shown_byte text
