use Rattle.std.proofs.Common.{◌≡◌, ◌+◌, ◌≤◌, ◌++◌, length, drop}
use Rattle.std.specs.List.{filter}
use Rattle.chip_form.specs.Samples.{in_mask}
use Rattle.dsp_state.specs.Sample.{records_from}
use Rattle.batch_rows.proofs.records.push_records.Given as goal

abbrev pub invariant-loop-v : goal.invariant-loop-v
invariant-loop-v l = record {
  so_far : l.initial.records ++ filter (in_mask l.mask) (records_from l.sample 0 l.answers) ≡ l.records ++ filter (in_mask l.mask) (records_from l.sample l.v (drop l.v l.answers));
  count : length l.records ≤ length l.initial.records + l.v;
}
