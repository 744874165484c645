-- Which bytes are an SPC file (SPC file format text v0.30; that short files are accepted and whatever follows the signature is own).
use Rattle.std.specs.Prelude.{ℕ, ◌+◌, ◌-◌, ◌==◌, ◌&&◌, Bool, List, [], ◌∷◌, ◌++◌, length, take, replicate, codes, Option, Some, None, Result, Ok, Err, nat_le, if◌then◌else◌}
use Rattle.std.specs.Option.{option_map}
use Rattle.num_fix.specs.Limits.{max_input}
use Rattle.spc_form.specs.declared.parts.TheConstants.{KEPT_LENGTH}
use Rattle.spc_form.specs.declared.reading.SpcRefusal.{SpcRefusal}
use Rattle.spc_form.specs.declared.reading.SpcRefusal.TheVariants.{Length, Signature}

-- the least length that is accepted: that of a file whose last 128 bytes are missing
abbrev pub min_length : ℕ
min_length = 65920

-- the greatest
abbrev pub max_length : ℕ
max_length = max_input

-- how many bytes are kept of a file
abbrev pub kept_length : ℕ
kept_length = KEPT_LENGTH

abbrev pub is_spc_length : ℕ → Bool
is_spc_length n = nat_le min_length n && nat_le n max_length

-- what a file begins with
abbrev pub signature : List ℕ
signature = codes "SNES-SPC700 Sound File Data"

-- the first place at which bytes differ from those that are wanted
abbrev pub first_difference : (wanted bytes : List ℕ) → Option ℕ
first_difference [] bytes = None
first_difference (w ∷ wanted) [] = Some 0
first_difference (w ∷ wanted) (byte ∷ bytes) = if w == byte then option_map (λ at. at + 1) (first_difference wanted bytes) else Some 0

-- the first n bytes, and after them as many zeros as are missing
abbrev pub padded_to : (n : ℕ) → List ℕ → List ℕ
padded_to n bytes = take n bytes ++ replicate (n - length bytes) 0

-- what is kept of a file
unfoldable pub padded_bytes : List ℕ → List ℕ
padded_bytes bytes = padded_to kept_length bytes

-- the file of bytes, by the first place at which they differ from the signature
abbrev pub signed_file : (bytes : List ℕ) → Option ℕ → Result (List ℕ) SpcRefusal
signed_file bytes None = Ok (padded_bytes bytes)
signed_file bytes (Some at) = Err (Signature at)

-- what bytes are, read as an SPC file: what is kept of it, or why they are none
unfoldable pub spc_file : (bytes : List ℕ) → Result (List ℕ) SpcRefusal
spc_file bytes = if is_spc_length (length bytes) then signed_file bytes (first_difference signature bytes) else Err (Length (length bytes))
