use Rattle.std.proofs.Common.{arith, ◌≡◌, ◌++◌, refl, rules}
use Rattle.std.proofs.lemmas.Grind.{common_steps}
use Rattle.render_core.specs.RenderState.{frames_to_come}
use Rattle.render_files.proofs.Waves.{given_first}
use Rattle.render_files.proofs.pieces.RenderFiles.add_piece.Goals as goal

pub returns-clause-wave_to_come : goal.returns-clause-wave_to_come
returns-clause-wave_to_come g c =
    let given = c.next_piece-piece.result.frames.now in
    let split : frames_to_come g.C.Chip.meaning c.self.inside.render ≡ given ++ frames_to_come g.C.Chip.meaning c.next_piece-piece.follows.lender-at-none = search rules in
    rw (← c.self.view_is) (given_first c.self.inside.wave _ _ given _ c.self.inside.made _ c.self.inside.samples c.self.inside.fade split c.put_faded_frames.ensures refl)

pub invariant_of-self : goal.invariant_of-self
invariant_of-self g c = grind (arith, common_steps)

pub put_faded_frames-requires-clause-inside : goal.put_faded_frames-requires-clause-inside
put_faded_frames-requires-clause-inside g c = grind (arith, common_steps)

pub returns-clause-trace_to_come : goal.returns-clause-trace_to_come
returns-clause-trace_to_come g c = grind (arith, common_steps)
