use Rattle.std.proofs.Common.{◌≡◌, ◌+◌, ◌-◌, ◌≤◌, ◌++◌}
use Rattle.std.specs.List.{filter}
use Rattle.chip_form.specs.Samples.{samples, in_mask}
use Rattle.dsp_state.specs.Sample.{sample}
use Rattle.dsp_core.specs.Outputs.{AreSame}
use Rattle.dsp_core.proofs.dsp.Dsp.advance.Given as goal

abbrev pub invariant-samples : goal.invariant-samples
invariant-samples l =
    let done = samples sample l.made l.initial.self.sample l.initial.self.state l.initial.memory in
    record {
      most : l.made ≤ l.n;
      state : l.self.state ≡ done.state;
      sample : l.self.sample ≡ l.initial.self.sample + l.made;
      batches : l.self.batches ≡ l.initial.self.batches;
      total : l.self.total ≡ l.initial.self.total;
      memory : l.memory ≡ done.memory;
      same : AreSame l.initial.outputs l.outputs;
      frames : l.outputs.frames.now ≡ l.initial.outputs.frames.now ++ done.frames;
      records : l.outputs.records.now ≡ l.initial.outputs.records.now ++ filter (in_mask l.initial.outputs.mask) done.records;
    }

abbrev pub decreases-samples : goal.decreases-samples
decreases-samples l = l.n - l.made
