-- Which bytes are a table of weights (the layout of the file is own).
use Rattle.std.specs.Prelude.{ℕ, ◌==◌, ℤ, List, length, Result, Ok, Err, if◌then◌else◌}
use Rattle.num_fix.specs.SignedWords.{signed_words}
use Rattle.gauss_table.specs.declared.refusal.TableRefusal.{TableRefusal}
use Rattle.gauss_table.specs.declared.refusal.TableRefusal.TheVariants.{Length}

-- how many bytes a table has
abbrev pub table_length : ℕ
table_length = 1024

-- what bytes are, read as a table: 512 weights, the low byte of each first, or why they are none
abbrev pub weights_in : (bytes : List ℕ) → Result (List ℤ) TableRefusal
weights_in bytes = if length bytes == table_length then Ok (signed_words bytes) else Err (Length (length bytes))
