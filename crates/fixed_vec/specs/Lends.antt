-- What a vector ends as where one of its elements was lent.
use Rattle.std.specs.Prelude.{ℕ}
use Rattle.std.specs.Borrow.{Lends, Fml, RattleType, MutBor}
use Rattle.fixed_vec.specs.declared.vec.FixedVec.{FixedVec}
use Rattle.fixed_vec.specs.contracts.vec.FixedVec.{the_row}
use Rattle.fixed_vec.specs.FixedVec.{with_element}

-- once the borrow ends, the index has the last element that was written through it
abbrev pub lends_element : (T : RattleType) → MutBor (FixedVec T.Denot) → (index : ℕ) → MutBor T.Denot → Fml
lends_element T vec index element = Lends (the_row T) T vec element (with_element vec.now index)
