-- The four weights of each place between two samples, side by side.
use Rattle.std.specs.Prelude.{◌≡◌, ℕ, ◌+◌, ◌-◌, ◌<◌, List, ℤ, Some, length, slice_get}
use Rattle.num_fix.specs.SignedWords.{number_at}
use Rattle.gauss_table.specs.declared.quad.Quad.{Quad}

-- the weights of the four samples, oldest first, at place i of 256
abbrev pub quad_at : List ℤ → (i : ℕ) → Quad
quad_at table i = record {
  oldest = number_at table (255 - i);
  older = number_at table (511 - i);
  newer = number_at table (256 + i);
  newest = number_at table i;
}

-- a table with the weights of each of its places
pub record AreQuads (table : List ℤ) (quads : List Quad) : Type 0 where
  pub table_long : length table ≡ 512
  pub quads_long : length quads ≡ 256
  pub each : (i : ℕ) → i < 256 → slice_get quads i ≡ Some (quad_at table i)
