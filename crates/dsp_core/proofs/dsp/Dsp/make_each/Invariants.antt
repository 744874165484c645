use Rattle.std.proofs.Common.{◌≡◌, ◌+◌, ◌*◌, ◌≤◌, ◌++◌, length}
use Rattle.std.specs.List.{filter}
use Rattle.chip_form.specs.Samples.{samples, in_mask}
use Rattle.dsp_state.specs.Sample.{sample}
use Rattle.dsp_core.specs.Outputs.{AreSame}
use Rattle.dsp_core.proofs.dsp.Dsp.make_each.Given as goal

abbrev pub invariant-samples : goal.invariant-samples
invariant-samples l =
    let done = samples sample l.counter l.initial.self.sample l.initial.self.state l.initial.memory in
    record {
      state : l.self.state ≡ done.state;
      sample : l.self.sample ≡ l.initial.self.sample + l.counter;
      batches : l.self.batches ≡ l.initial.self.batches;
      total : l.self.total ≡ l.initial.self.total;
      memory : l.memory ≡ done.memory;
      same : AreSame l.initial.outputs l.outputs;
      frames : l.outputs.frames.now ≡ l.initial.outputs.frames.now ++ done.frames;
      records : l.outputs.records.now ≡ l.initial.outputs.records.now ++ filter (in_mask l.initial.outputs.mask) done.records;
      frame_count : length l.outputs.frames.now ≡ length l.initial.outputs.frames.now + l.counter;
      record_count : length l.outputs.records.now ≤ length l.initial.outputs.records.now + 8 * l.counter;
    }
