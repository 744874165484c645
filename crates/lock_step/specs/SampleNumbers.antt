-- The sample numbers of records.
use Rattle.std.specs.Prelude.{ℕ}
use Rattle.trace_form.specs.declared.record.Record.{Record}
use Rattle.trace_form.specs.declared.record.Record.TheVariants.{Reg, Port, Voice}

-- the sample number of a record: the number of samples made before a write, or of a voice its sample's own
abbrev pub sample_number : Record → ℕ
sample_number (Reg sample addr value) = sample
sample_number (Port sample port value) = sample
sample_number (Voice sample voice level out block keyed ended) = sample
