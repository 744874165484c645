use Rattle.std.proofs.Common.{refl, sym, ◌∙◌, arith, append_assoc, length-append}
use Rattle.std.proofs.lemmas.List.{append-nil}
use Rattle.std.proofs.lemmas.List.Elements.{filter-append}
use Rattle.chip_form.proofs.OneMoreSample.{samples_none, samples_more}
use Rattle.dsp_core.proofs.dsp.Dsp.make_each.Goals as goal

pub samples-init : goal.samples-init
samples-init c = record {
  state = rw samples_none refl;
  sample = omega arith;
  batches = refl;
  total = refl;
  memory = rw samples_none refl;
  same = record { mask = refl; frames = refl; records = refl };
  frames = rw samples_none (sym (append-nil c.args.outputs.now.frames.now));
  records = rw samples_none (sym (append-nil c.args.outputs.now.records.now));
  frame_count = omega arith;
  record_count = omega arith;
}

pub samples-preserved : goal.samples-preserved
samples-preserved c = record {
  state = rw (samples_more, c.make_one.ensures.made.state_made, c.samples.invariant.state, c.samples.invariant.memory, c.samples.invariant.sample) refl;
  sample = rw (c.make_one.ensures.chip) (omega (arith, c.samples.invariant.sample));
  batches = rw (c.make_one.ensures.chip) c.samples.invariant.batches;
  total = rw (c.make_one.ensures.chip) c.samples.invariant.total;
  memory = rw (samples_more, c.make_one.ensures.made.memory_made, c.samples.invariant.state, c.samples.invariant.memory, c.samples.invariant.sample) refl;
  same = record {
    mask = c.make_one.ensures.same.mask ∙ c.samples.invariant.same.mask;
    frames = c.make_one.ensures.same.frames ∙ c.samples.invariant.same.frames;
    records = c.make_one.ensures.same.records ∙ c.samples.invariant.same.records;
  };
  frames = rw (samples_more, c.make_one.ensures.made.frames_made, c.samples.invariant.state, c.samples.invariant.memory, c.samples.invariant.sample, c.samples.invariant.frames, append_assoc) refl;
  records = rw (samples_more, filter-append, c.make_one.ensures.made.records_made, c.samples.invariant.same.mask, c.samples.invariant.state, c.samples.invariant.memory, c.samples.invariant.sample, c.samples.invariant.records, append_assoc) refl;
  frame_count = rw (c.make_one.ensures.made.frames_made, length-append) (omega (arith, c.samples.invariant.frame_count));
  record_count = omega (arith, c.samples.invariant.record_count, c.make_one.ensures.record_count);
}
