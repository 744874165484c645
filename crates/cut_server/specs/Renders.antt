-- What a server keeps of its render. No contract that others see cites these words.
use Rattle.std.specs.Prelude.{◌≡◌, ℕ, ◌-◌, ◌*◌, ◌<◌, ◌≤◌, false}
use Rattle.spc700_exec.specs.declared.bus.TheConstants.{CYCLES_PER_SAMPLE}
use Rattle.chip_form.specs.Samples.{count_after}
use Rattle.chip_form.specs.ChipMeaning.{ChipMeaning}
use Rattle.chip_form.specs.ChipSaving.{ChipSaving}
use Rattle.lock_step.specs.LockStepEmits.{drained_machine}
use Rattle.render_core.specs.declared.saved.PlayState.{PlayState}
use Rattle.render_core.specs.RenderState.{RenderState, is_at_length, whole_at_length}
use Rattle.cut_server.specs.Table.{TableState}
use Rattle.cut_server.specs.Server.{lock_step_machines, standing_of}
use Rattle.cut_server.specs.IsServed.{IsServed}

-- A render at its length has handed over all that was emitted, and its chip stands there too.
pub record HasHandedOver {S : Type 0} (render : RenderState S) : Type 0 where
  pub drained : drained_machine render.bus.machine ≡ render.bus.machine
  pub chip : render.bus.chip_sample ≡ render.samples

-- A server over a render: what it keeps. The number that it reports to have made is that of its render.
pub record IsServing {S V : Type 0} (chip : ChipMeaning S) (saving : ChipSaving S V) (render : RenderState S) (made : ℕ)
    (table : TableState (PlayState V)) (at : ℕ) : Type 0 where
  pub served : IsServed (lock_step_machines chip saving) (standing_of render) table at
  pub handed_over : HasHandedOver render
  pub counted : made ≡ render.bus.chip_total

-- A render that was continued: it still leads to the same machine at the same length, and the count of all samples that its chip made rose by as much
-- as the number of its next sample.
pub record IsUnderway {S : Type 0} (chip : ChipMeaning S) (old new : RenderState S) : Type 0 where
  pub samples : new.samples ≡ old.samples
  pub whole : whole_at_length chip new ≡ whole_at_length chip old
  pub rises : old.bus.chip_sample ≤ new.bus.chip_sample
  pub total : new.bus.chip_total ≡ count_after old.bus.chip_total (new.bus.chip_sample - old.bus.chip_sample)

-- A render made a piece, and is nearer to its length.
pub record GoesNearer {S : Type 0} (chip : ChipMeaning S) (old new : RenderState S) : Type 0 where
  pub way : IsUnderway chip old new
  pub later : is_at_length new ≡ false → old.bus.machine.clock < new.bus.machine.clock
  pub below : is_at_length new ≡ false → new.bus.machine.clock < CYCLES_PER_SAMPLE * new.samples

-- A render went on to its length.
pub record RunsOut {S : Type 0} (chip : ChipMeaning S) (old new : RenderState S) : Type 0 where
  pub samples : new.samples ≡ old.samples
  pub whole : (new.cpu, new.bus.machine) ≡ whole_at_length chip old
  pub sample : new.bus.chip_sample ≡ old.samples
  pub total : new.bus.chip_total ≡ count_after old.bus.chip_total (old.samples - old.bus.chip_sample)
