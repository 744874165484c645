use Rattle.std.proofs.Common.{◌+◌, ◌∙◌, arith, ap, length}
use Rattle.render_core.specs.RenderState.{frames_to_come}
use Rattle.cut_server.proofs.Renders.{arrives}
use Rattle.cut_server.proofs.Serving.{serving_on, tune_kept_on, aimed_few, frames_played}
use Rattle.cut_server.proofs.server.CutServer.play_into.Goals as goal

pub invariant_of-self : goal.invariant_of-self
invariant_of-self g c =
    let within = rw (← c.self.view_is) at c.requires.within in
    let there = arrives g.C.Chip.meaning g.C.Chip.saving c.self.inside.render c.aim.new.self c.run_out_over.new.render (c.self.inside.position + length c.args.frames.now) c.self.invariant.handed_over c.aim.ensures c.run_out_over.ensures.out in
    serving_on g.met.C.Chip.saves_lawfully c.self.invariant _ (omega arith) (omega (arith, c.self.invariant.served.position, within)) _ there c.run_out_over.ensures.done (omega arith)

pub returns-clause-frames : goal.returns-clause-frames
returns-clause-frames g c =
    rw (← c.self.view_is, c.run_out_over.ensures.frames, c.self.invariant.served.position)
    (ap (frames_to_come g.C.Chip.meaning) c.aim.ensures ∙ frames_played g.met.C.Chip.saves_lawfully c.self.invariant (length c.args.frames.now))

pub returns-clause-tune : goal.returns-clause-tune
returns-clause-tune g c =
    let there = arrives g.C.Chip.meaning g.C.Chip.saving c.self.inside.render c.aim.new.self c.run_out_over.new.render (c.self.inside.position + length c.args.frames.now) c.self.invariant.handed_over c.aim.ensures c.run_out_over.ensures.out in
    rw (← c.self.view_is) (tune_kept_on g.met.C.Chip.saves_lawfully c.self.invariant _ _ there)

pub run_out_over-requires : goal.run_out_over-requires
run_out_over-requires g c =
    aimed_few g.met.C.Chip.saves_lawfully c.self.invariant (length c.args.frames.now) c.aim.new.self c.aim.ensures
