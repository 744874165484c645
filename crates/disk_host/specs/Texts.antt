-- What contracts see of the report and of the complaint of a disk.
use Rattle.std.specs.Prelude.{ℕ, List, Option}

-- the bytes of the report and of the complaint, where they know them
pub record Texts : Type 0 where
  pub report : Option (List ℕ)
  pub complaint : Option (List ℕ)
