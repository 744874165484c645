use Rattle.std.proofs.Common.{◌≡◌, ℕ, ◌<◌, false, get_or, length}
use Rattle.spc_form.specs.Layout.{dsp_of}
use Rattle.sample_rip.specs.Entries.{is_wanted}
use Rattle.sample_rip.proofs.entries.wanted.Given as goal

-- the entries so far are reported
abbrev pub invariant-loop-entry : goal.invariant-loop-entry
invariant-loop-entry l = (length l.entries ≡ 256) × ((k : ℕ) → k < l.entry → get_or l.entries k false ≡ is_wanted (dsp_of l.file) l.range k)
