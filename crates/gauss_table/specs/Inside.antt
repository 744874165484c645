-- What the fields of a table stand for.
use Rattle.std.specs.Prelude.{List, Option, Some, None, ℤ}
use Rattle.std.specs.Global.{Box}
use Rattle.gauss_table.specs.Factors.{AreFactors, AreFractions}
use Rattle.gauss_table.specs.Quads.{AreQuads}
use Rattle.gauss_table.specs.declared.factors.Factors.{Factors}
use Rattle.gauss_table.specs.declared.table.GaussTable.TheInside.{Inside}

-- the factors that are kept of a table: those of its places, or none where not each weight is a fraction
abbrev pub AreItsFactors : (table : List ℤ) → Option (Box (List Factors)) → Type 0
AreItsFactors table (Some factors) = AreFactors table factors.value
AreItsFactors table None = ¬ AreFractions table

-- what holds of the fields of each table
pub record IsTable (t : Inside) : Type 0 where
  pub quads : AreQuads t.weights.value t.quads.value
  pub factors : AreItsFactors t.weights.value t.factors
