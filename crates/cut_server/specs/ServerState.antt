-- A server of cuts over any whole machines: what its render holds at its length, and its table of checkpoints.
use Rattle.std.specs.Prelude.{◌≡◌, ℕ, List, [], ◌∷◌, Bool, length}
use Rattle.num_fix.specs.declared.Frame.{Frame}
use Rattle.cut_form.specs.Checkpoints.{pages_of, slots_free}
use Rattle.cut_form.specs.CutBook.{CutBook}
use Rattle.cut_server.specs.Machines.{Machines}
use Rattle.cut_server.specs.Table.{TableState, Saved, saved_of, live_checkpoints}

-- A render at its length.
pub record Standing (W : Type 0) : Type 0 where
  -- the samples made, which are its length
  pub samples : ℕ
  pub whole : W
  pub is_done : Bool

pub record ServerState (W V : Type 0) : Type 0 where
  pub standing : Standing W
  -- the samples that the current chip made in all
  pub made : ℕ
  pub table : TableState V

-- where it stands, its checkpoints, and how much it made
abbrev pub book_of : {W V : Type 0} → ServerState W V → CutBook
book_of server = record {
  position = server.standing.samples;
  live = live_checkpoints server.table;
  made = server.made;
}

-- the slots of its pool
abbrev pub slots_of : {W V : Type 0} → ServerState W V → ℕ
slots_of server = length server.table.pool

-- the slots that its live checkpoints leave free
abbrev pub slots_left : {W V : Type 0} → ServerState W V → ℕ
slots_left server = slots_free (slots_of server) (book_of server).live

-- the machine that was saved first, over what no run changes of a machine
unfoldable pub first_machine : {W V : Type 0} → Machines W V → W → List (Saved V) → W
first_machine machines w [] = w
first_machine machines w (saved ∷ rest) = machines.loaded w saved.state saved.memory

abbrev pub machine_at_start : {W V : Type 0} → Machines W V → ServerState W V → W
machine_at_start machines server = first_machine machines server.standing.whole (saved_of server.table)

-- the pages of the memory that the run from a machine has once so many samples are made, and the frames that it emits until then
abbrev pub pages_after : {W V : Type 0} → Machines W V → W → (samples : ℕ) → List (List ℕ)
pages_after machines start samples = pages_of (machines.memory (machines.after_run samples start))

abbrev pub frames_after : {W V : Type 0} → Machines W V → W → (samples : ℕ) → List Frame
frames_after machines start samples = machines.run_frames samples start

-- what each call keeps of a server
pub record KeepsStart {W V : Type 0} (machines : Machines W V) (old new : ServerState W V) : Type 0 where
  pub start : machine_at_start machines new ≡ machine_at_start machines old
  pub slots : slots_of new ≡ slots_of old
