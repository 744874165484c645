-- What the rows of the instruction list keep, so that each operand has its place: their forms suit their operations, and none
-- looks at X after it has changed.
use Rattle.std.proofs.Common.{◌≡◌, Bool, true, false, ◌&&◌, refl}
use Rattle.std.specs.Prelude.{not}
use Rattle.spc700_table.specs.declared.Form.{Form}
use Rattle.spc700_table.specs.declared.Form.TheVariants as F
use Rattle.spc700_table.specs.declared.OpRow.{OpRow}
use Rattle.spc700_exec.specs.Operations.{Operation}
use Rattle.spc700_exec.specs.Forms.{suits}

-- the forms whose address X enters, and the form that changes X
abbrev pub looks_at_x : Form → Bool
looks_at_x F.DirectX = true
looks_at_x F.AbsX = true
looks_at_x F.PtrX = true
looks_at_x F.PtrXInc = true
looks_at_x F.IndX = true
looks_at_x F.AbsPtrX = true
looks_at_x _ = false

abbrev pub changes_x : Form → Bool
changes_x F.PtrXInc = true
changes_x _ = false

-- no row looks at X for one operand after the other one, (X)+, has changed it
abbrev pub is_steady : OpRow → Bool
is_steady row = not (changes_x row.second && looks_at_x row.first) && not (changes_x row.first && looks_at_x row.second)

pub not_both : (a b : Bool) → not (a && b) ≡ true → b ≡ true → a ≡ false
not_both false b h hb = refl
not_both true true h hb = absurd (cc)
not_both true false h hb = absurd (cc)

-- an operation whose forms and row keep both
pub record IsListed (row : OpRow) (op : Operation) : Type 0 where
  pub suits : suits op row.first row.second ≡ true
  pub steady : is_steady row ≡ true
