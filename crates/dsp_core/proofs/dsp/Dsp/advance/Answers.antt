use Rattle.std.proofs.Common.{refl, sym, ◌∙◌, arith, append_assoc}
use Rattle.std.proofs.lemmas.List.{append-nil}
use Rattle.std.proofs.lemmas.List.Elements.{filter-append}
use Rattle.chip_form.proofs.OneMoreSample.{samples_none}
use Rattle.dsp_core.proofs.Batches.{samples_after, frames_fit, records_fit}
use Rattle.dsp_core.proofs.dsp.Dsp.advance.Goals as goal

pub returns-then-n-eq0-clause-made : goal.returns-then-n-eq0-clause-made
returns-then-n-eq0-clause-made c = record {
  state_made = rw (c.if-n-eq0.true, samples_none, ← c.self.view_is) refl;
  memory_made = rw (c.if-n-eq0.true, samples_none) refl;
  frames_made = rw (c.if-n-eq0.true, samples_none) (sym (append-nil c.args.frames.now));
  records_made = rw (c.if-n-eq0.true, samples_none) (sym (append-nil c.args.records.now));
}

pub samples-init : goal.samples-init
samples-init c = record {
  most = omega arith;
  state = rw samples_none refl;
  sample = omega arith;
  batches = refl;
  total = refl;
  memory = rw samples_none refl;
  same = record { mask = refl; frames = refl; records = refl };
  frames = rw samples_none (sym (append-nil c.args.frames.now));
  records = rw samples_none (sym (append-nil c.args.records.now));
}

pub samples-preserved : goal.samples-preserved
samples-preserved c = record {
  most = omega (arith, c.make_some-made.ensures.few);
  state = rw (samples_after, c.make_some-made.ensures.made.state_made, c.samples.invariant.state, c.samples.invariant.memory, c.samples.invariant.sample) refl;
  sample = rw (c.make_some-made.ensures.chip) (omega (arith, c.samples.invariant.sample));
  batches = rw (c.make_some-made.ensures.chip) c.samples.invariant.batches;
  total = rw (c.make_some-made.ensures.chip) c.samples.invariant.total;
  memory = rw (samples_after, c.make_some-made.ensures.made.memory_made, c.samples.invariant.state, c.samples.invariant.memory, c.samples.invariant.sample) refl;
  same = record {
    mask = c.make_some-made.ensures.same.mask ∙ c.samples.invariant.same.mask;
    frames = c.make_some-made.ensures.same.frames ∙ c.samples.invariant.same.frames;
    records = c.make_some-made.ensures.same.records ∙ c.samples.invariant.same.records;
  };
  frames = rw (samples_after, c.make_some-made.ensures.made.frames_made, c.samples.invariant.state, c.samples.invariant.memory, c.samples.invariant.sample, c.samples.invariant.frames, append_assoc) refl;
  records = rw (samples_after, filter-append, c.make_some-made.ensures.made.records_made, c.samples.invariant.same.mask, c.samples.invariant.state, c.samples.invariant.memory, c.samples.invariant.sample, c.samples.invariant.records, append_assoc) refl;
}

pub make_some-made-requires-clause-room : goal.make_some-made-requires-clause-room
make_some-made-requires-clause-room c = record {
  frames = frames_fit _ _ c.args.n c.samples.made _ _ _ c.samples.invariant.frames c.requires.frame_capacity c.samples-test.true;
  records = records_fit _ _ c.args.mask c.args.n c.samples.made _ _ _ c.self.invariant.valid c.samples.invariant.records c.requires.record_capacity c.samples-test.true;
}
