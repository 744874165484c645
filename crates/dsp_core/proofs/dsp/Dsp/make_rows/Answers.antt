use Rattle.std.proofs.Common.{sym, ◌∙◌}
use Rattle.batch_rows.specs.Apart.{VoicesReadTheSame}
use Rattle.dsp_state.specs.declared.state.ChipState.{ChipState}
use Rattle.dsp_core.proofs.Batches.{by_rows-samples, is_valid-samples, settings_of-samples}
use Rattle.dsp_core.proofs.dsp.Dsp.make_rows.Goals as goal

pub invariant_of-self : goal.invariant_of-self
invariant_of-self c =
    let s : ChipState = c.self.inside.state in
    let apart : VoicesReadTheSame c.args.n c.self.inside.number s c.args.memory.now = rw (← c.self.view_is) at c.requires.apart in
    let by = by_rows-samples c.args.n c.self.inside.number s c.args.memory.now apart in
    let made = rw (c.after-samples.ensures.number, c.after-samples.ensures.count) at c.play_batch.ensures.made.state_made in
    record {
      clock = rw c.from.ensures (c.after_samples-self-inside.ensures.after c.self.inside.number c.self.invariant.clock);
      valid = rw (made, by) (is_valid-samples c.args.n c.self.inside.number s c.args.memory.now c.self.invariant.valid);
      settings = λ fresh. rw (made, by) (c.renew.ensures ∙ sym (settings_of-samples c.args.n c.self.inside.number s c.args.memory.now));
    }

pub returns-clause-made : goal.returns-clause-made
returns-clause-made c =
    let s : ChipState = c.self.inside.state in
    let apart : VoicesReadTheSame c.args.n c.self.inside.number s c.args.memory.now = rw (← c.self.view_is) at c.requires.apart in
    let by = by_rows-samples c.args.n c.self.inside.number s c.args.memory.now apart in
    let made = rw (c.after-samples.ensures.number, c.after-samples.ensures.count, by) at c.play_batch.ensures.made in
    record {
      state_made = rw (← c.self.view_is) made.state_made;
      memory_made = rw (← c.self.view_is) made.memory_made;
      frames_made = rw (← c.self.view_is) made.frames_made;
    }
