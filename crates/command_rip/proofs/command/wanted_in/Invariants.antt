use Rattle.std.proofs.Common.{◌≡◌, ◌≤◌, filter, length}
use Rattle.std.specs.List.{range_with_len}
use Rattle.spc_form.specs.Layout.{dsp_of}
use Rattle.sample_rip.specs.Entries.{is_wanted}
use Rattle.command_rip.proofs.command.wanted_in.Given as goal

-- the wanted ones of the first entries
abbrev pub invariant-loop-entry : goal.invariant-loop-entry
invariant-loop-entry l = record {
  wanted : l.entries.items ≡ filter (is_wanted (dsp_of l.fn.file) l.fn.range) (range_with_len 0 l.entry);
  few : length l.entries.items ≤ l.entry;
}
