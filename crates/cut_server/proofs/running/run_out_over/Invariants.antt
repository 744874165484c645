use Rattle.std.proofs.Common.{◌≡◌, ◌+◌, ◌-◌, ◌*◌, ◌++◌, if◌then◌else◌, length, take}
use Rattle.spc700_exec.specs.declared.bus.TheConstants.{CYCLES_PER_SAMPLE}
use Rattle.render_core.specs.RenderState.{frames_to_come, is_at_length}
use Rattle.cut_server.specs.Renders.{IsUnderway}
use Rattle.cut_server.proofs.running.run_out_over.Given as goal

abbrev pub invariant-pieces : goal.invariant-pieces
invariant-pieces g l = IsUnderway g.C.Chip.meaning l.initial.render l.render
    × (l.end + length (frames_to_come g.C.Chip.meaning l.render) ≡ length l.places)
    × (frames_to_come g.C.Chip.meaning l.initial.render ≡ take l.end l.places ++ frames_to_come g.C.Chip.meaning l.render)

abbrev pub decreases-pieces : goal.decreases-pieces
decreases-pieces g l = if is_at_length l.render then 0 else CYCLES_PER_SAMPLE * l.render.samples - l.render.bus.machine.clock + 1
