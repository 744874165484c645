use Rattle.std.proofs.Common.{ap, rules}
use Rattle.render_core.proofs.FramesFromOpening.{length-opened}
use Rattle.render_core.proofs.render.Render.open.Goals as goal

pub returns : goal.returns
returns g c = record {
  whole = search rules;
  samples = search rules;
  frames = search rules;
  records = search rules;
  counts = search rules;
  count = length-opened g.C.Chip.meaning c.args.samples c.opened_cpu.result c.in_ok-bus.bus.machine (ap (λ bus. bus.machine.clock) c.in_ok-bus.ensures) (ap (λ bus. bus.machine.frames) c.in_ok-bus.ensures);
  at_length = search rules;
}
