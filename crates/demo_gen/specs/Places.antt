-- Parts of a file at their places.
use Rattle.std.specs.Prelude.{ℕ, ◌+◌, List, ◌++◌}
use Rattle.spc_form.specs.Accepted.{padded_to}
use Rattle.spc_form.specs.Layout.{memory_place}

-- where a cell of the memory stands in the file
abbrev pub cell : (address : ℕ) → ℕ
cell address = memory_place + address

-- a file's first bytes, and after them a part from its place on, with zeros between
unfoldable pub with_part : (file : List ℕ) → (place : ℕ) → (part : List ℕ) → List ℕ
with_part file place part = padded_to place file ++ part
