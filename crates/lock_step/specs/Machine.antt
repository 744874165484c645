-- The machine beneath the processor, as plain data: memory, ports and timers, and a chip of which it has the state.
use Rattle.std.specs.Prelude.{ℕ, List, []}
use Rattle.num_fix.specs.declared.Frame.{Frame}
use Rattle.ports_timers.specs.declared.io.Io.{Io}
use Rattle.ports_timers.specs.Io.{first_io}
use Rattle.trace_form.specs.declared.record.Record.{Record}

pub record Machine (S : Type 0) : Type 0 where
  pub memory : List ℕ
  pub io : Io
  pub chip : S
  -- the voices whose records are emitted: bit v is voice v
  pub mask : ℕ
  -- the cycles passed so far
  pub clock : ℕ
  -- What was emitted since the last drain, as two lists. In the order of emission a sample's voice records stand before its
  -- frame, and each record has the number of the samples made before it, or of a voice its sample's own. So what is emitted
  -- up to and with the n-th frame of a run are n frames and the records with a sample number below n.
  pub frames : List Frame
  pub records : List Record
  -- the reads, writes and passes since the last drain
  pub calls : ℕ

-- the machine at its opening: nothing has passed and nothing is emitted
abbrev pub opened_machine : {S : Type 0} → (memory cells rom : List ℕ) → (chip : S) → (mask : ℕ) → Machine S
opened_machine memory cells rom chip mask = record {
  memory = memory;
  io = first_io cells rom;
  chip = chip;
  mask = mask;
  clock = 0;
  frames = [];
  records = [];
  calls = 0;
}
