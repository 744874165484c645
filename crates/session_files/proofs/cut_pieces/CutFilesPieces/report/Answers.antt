use Rattle.std.proofs.Common.{◌≡◌, ◌∙◌}
use Rattle.std.specs.Prelude.{true}
use Rattle.session_files.proofs.cut_pieces.CutFilesPieces.report.Goals as goal

pub returns : goal.returns
returns g c =
    let done : c.self.inside.is_done ≡ true = cc in
    rw (← c.self.view_is) (c.as_slice.ensures ∙ c.self.invariant.known done)
