use Rattle.std.proofs.Common.{rules, sym, ◌∙◌}
use Rattle.dsp_state.proofs.ReadOnce.{settings_of-sample}
use Rattle.dsp_state.proofs.Valid.{is_valid-sample}
use Rattle.dsp_core.proofs.dsp.Dsp.make_one.Goals as goal

pub invariant_of-self : goal.invariant_of-self
invariant_of-self c = record {
  clock = search rules;
  valid = rw c.make_sample-frame.ensures.state_made (is_valid-sample c.self.inside.number c.self.inside.state c.args.memory.now c.self.invariant.valid);
  settings = λ fresh. rw c.make_sample-frame.ensures.state_made (c.renew.ensures ∙ sym (settings_of-sample c.self.inside.number c.self.inside.state c.args.memory.now));
}
