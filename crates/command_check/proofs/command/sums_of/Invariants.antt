use Rattle.std.proofs.Common.{◌≡◌, ◌+◌, ◌*◌, ◌-◌, ◌≤◌, fold, length}
use Rattle.dsp_core.specs.DspChip.{dsp_chip}
use Rattle.render_core.specs.RenderState.{frames_to_come, counts_to_come}
use Rattle.command_check.specs.Check.{checked_samples, sums_with, sums_of, AreWithin}
use Rattle.command_check.proofs.command.sums_of.Given as goal

-- the sums so far, and the frames to come
abbrev pub invariant-pieces : goal.invariant-pieces
invariant-pieces l = record {
  sums : fold sums_with l.sums (frames_to_come dsp_chip l.render) ≡ sums_of (frames_to_come dsp_chip l.fn.render);
  counts : counts_to_come dsp_chip l.render ≡ counts_to_come dsp_chip l.fn.render;
  within : AreWithin l.before l.sums;
  few : l.before + length (frames_to_come dsp_chip l.render) ≤ checked_samples;
}

abbrev pub decreases-pieces : goal.decreases-pieces
decreases-pieces l = 32 * l.render.samples - l.render.bus.machine.clock
