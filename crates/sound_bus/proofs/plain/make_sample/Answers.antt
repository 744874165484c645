use Rattle.std.proofs.Common.{refl, arith, length-append}
use Rattle.chip_form.proofs.RecordCounts.{samples_one, sample_record_count}
use Rattle.sound_bus.proofs.plain.make_sample.Goals as goal

pub returns-clause-made : goal.returns-clause-made
returns-clause-made g c = record {
  state_made = rw (c.advance.ensures.made.state_made, samples_one) refl;
  memory_made = rw (c.advance.ensures.made.memory_made, samples_one) refl;
  frames_made = rw (c.advance.ensures.made.frames_made, samples_one) refl;
  records_made = rw (c.advance.ensures.made.records_made, samples_one) refl;
}

pub returns-clause-frame_count : goal.returns-clause-frame_count
returns-clause-frame_count g c = rw (c.advance.ensures.made.frames_made, samples_one, length-append) (omega arith)

pub returns-clause-record_count : goal.returns-clause-record_count
returns-clause-record_count g c =
    let few = sample_record_count g.C.Chip.meaning g.met.C.Chip.lawful c.args.mask (g.C.Chip.sample c.args.chip.now) (g.C.Chip.state c.args.chip.now) c.args.memory.now c.requires.is_valid in
    rw (c.advance.ensures.made.records_made, samples_one, length-append) (omega (arith, few))
