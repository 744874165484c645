-- What contracts see of a server of cuts.
use Rattle.std.specs.Prelude.{ℕ, ◌/◌, List}
use Rattle.num_fix.specs.declared.Frame.{Frame}
use Rattle.spc700_exec.specs.declared.bus.TheConstants.{CYCLES_PER_SAMPLE}
use Rattle.chip_form.specs.ChipMeaning.{ChipMeaning}
use Rattle.chip_form.specs.ChipSaving.{ChipSaving}
use Rattle.lock_step.specs.Machine.{Machine}
use Rattle.render_core.specs.declared.saved.PlayState.{PlayState}
use Rattle.render_core.specs.MachineRun.{Whole}
use Rattle.render_core.specs.Saved.{saved_whole}
use Rattle.render_core.specs.Whole.{loaded_whole, whole_after_run, frames_of_run}
use Rattle.render_core.specs.RenderState.{RenderState, is_at_length}
use Rattle.cut_form.specs.CutBook.{CutBook, needed_here, with_one_here}
use Rattle.cut_form.specs.Marks.{MarkOutcome, mark_here}
use Rattle.cut_server.specs.Machines.{Machines}
use Rattle.cut_server.specs.ServerState.{Standing, ServerState, book_of, slots_of, machine_at_start, pages_after, frames_after, KeepsStart}

-- Its machines are those of a processor over the machine in lock step with its chip.
unfoldable pub lock_step_machines : {S V : Type 0} → ChipMeaning S → ChipSaving S V → Machines (Whole (Machine S)) (PlayState V)
lock_step_machines chip saving = record {
  state = saved_whole saving;
  memory = λ w. w.1.memory;
  sample = λ saved. saved.bus.clock / CYCLES_PER_SAMPLE;
  loaded = loaded_whole saving;
  after_run = whole_after_run chip;
  run_frames = frames_of_run chip;
}

-- what a render holds at its length
abbrev pub standing_of : {S : Type 0} → RenderState S → Standing (Whole (Machine S))
standing_of render = record {
  samples = render.samples;
  whole = (render.cpu, render.bus.machine);
  is_done = is_at_length render;
}

-- the server of a chip in such states, of which this is saved
abbrev pub ChipServer : (S V : Type 0) → Type 0
ChipServer S V = ServerState (Whole (Machine S)) (PlayState V)

-- the state of the chip that the run from a machine has once so many samples are made
abbrev pub chip_after : {S : Type 0} → ChipMeaning S → (start : Whole (Machine S)) → (samples : ℕ) → S
chip_after chip start samples = (whole_after_run chip samples start).1.chip

-- The machine at the opening is that of the first checkpoint, which is never dropped. These are it, the pages of the run from it,
-- its frames, and its chip.
abbrev pub opening : {S V : Type 0} → ChipMeaning S → ChipSaving S V → ChipServer S V → Whole (Machine S)
opening chip saving server = machine_at_start (lock_step_machines chip saving) server

abbrev pub pages_at : {S V : Type 0} → ChipMeaning S → ChipSaving S V → ChipServer S V → (samples : ℕ) → List (List ℕ)
pages_at chip saving server = pages_after (lock_step_machines chip saving) (opening chip saving server)

abbrev pub frames_to : {S V : Type 0} → ChipMeaning S → ChipSaving S V → ChipServer S V → (samples : ℕ) → List Frame
frames_to chip saving server = frames_after (lock_step_machines chip saving) (opening chip saving server)

abbrev pub chip_at : {S V : Type 0} → ChipMeaning S → ChipSaving S V → ChipServer S V → (samples : ℕ) → S
chip_at chip saving server = chip_after chip (opening chip saving server)

-- Of a checkpoint at its position: the slots that it needs, the book with it, and what becomes of a mark there.
abbrev pub slots_needed_at : {S V : Type 0} → ChipMeaning S → ChipSaving S V → ChipServer S V → ℕ
slots_needed_at chip saving server = needed_here (pages_at chip saving server) (book_of server)

abbrev pub book_with_one_at : {S V : Type 0} → ChipMeaning S → ChipSaving S V → ChipServer S V → CutBook
book_with_one_at chip saving server = with_one_here (pages_at chip saving server) (book_of server)

abbrev pub marking_at : {S V : Type 0} → ChipMeaning S → ChipSaving S V → ChipServer S V → MarkOutcome
marking_at chip saving server = mark_here (slots_of server) (pages_at chip saving server) (book_of server)

abbrev pub KeepsTune : {S V : Type 0} → ChipMeaning S → ChipSaving S V → (old new : ChipServer S V) → Type 0
KeepsTune chip saving old new = KeepsStart (lock_step_machines chip saving) old new
