-- What is saved of a whole machine beside its memory, and a render once that is loaded.
use Rattle.std.specs.Prelude.{◌≤◌, ℕ, List}
use Rattle.num_fix.specs.Limits.{max_frames}
use Rattle.chip_form.specs.ChipMeaning.{ChipMeaning}
use Rattle.chip_form.specs.ChipSaving.{ChipSaving}
use Rattle.lock_step.specs.Machine.{Machine}
use Rattle.lag_bus.specs.Saved.{CanBeLoaded, saved_bus, loaded_lagging}
use Rattle.render_core.specs.declared.saved.PlayState.{PlayState}
use Rattle.render_core.specs.MachineRun.{Whole}
use Rattle.render_core.specs.RenderState.{RenderState}

-- what is saved of a whole machine
abbrev pub saved_whole : {S V : Type 0} → ChipSaving S V → Whole (Machine S) → PlayState V
saved_whole saving w = record { cpu = w.0; bus = saved_bus saving w.1 }

-- the same with another chip saved
abbrev pub with_saved_chip : {V : Type 0} → PlayState V → (chip : V) → PlayState V
with_saved_chip saved chip = record saved { bus = record saved.bus { chip = chip } }

-- what can be loaded, as all that is saved: a render may be as long as the samples made by then
pub record CanBePlayed {S V : Type 0} (saving : ChipSaving S V) (saved : PlayState V) : Type 0 where
  pub bus : CanBeLoaded saving saved.bus
  pub few : saving.number saved.bus.chip ≤ max_frames

-- a render once that is loaded over a memory: its length is where it was saved
abbrev pub loaded_render : {S V : Type 0} → ChipMeaning S → ChipSaving S V → RenderState S → PlayState V → (memory : List ℕ) → RenderState S
loaded_render chip saving render saved memory = record render {
  cpu = saved.cpu;
  bus = loaded_lagging chip saving render.bus saved.bus memory;
  samples = saving.number saved.bus.chip;
}
