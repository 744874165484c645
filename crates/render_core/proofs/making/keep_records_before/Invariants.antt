use Rattle.std.proofs.Common.{◌≡◌, ◌≤◌, ◌++◌, length, drop}
use Rattle.trace_form.specs.Capacities.{record_capacity}
use Rattle.render_core.specs.Items.{records_before}
use Rattle.render_core.proofs.making.keep_records_before.Given as goal

-- those that were taken over, and the early ones of those still to be looked at
abbrev pub invariant-loop-item : goal.invariant-loop-item
invariant-loop-item l = record {
  all : l.records ++ records_before l.samples (drop l.item-index l.item-items) ≡ records_before l.samples l.item-items;
  room : length l.records ≤ l.item-index;
  few : length l.item-items ≤ record_capacity;
}
