use Rattle.std.proofs.Common.{ap, sym, ◌∙◌, ◌*◌, ◌++◌, ℕ}
use Rattle.wav_form.specs.Wave.{header_of}
use Rattle.sample_rip.specs.Rip.{rip_samples}
use Rattle.sample_rip.specs.Walk.{WalkState, samples_ahead}
use Rattle.sample_rip.proofs.Sizes.{length-rip_samples}
use Rattle.command_rip.specs.Pieces.{wave_bytes}
use Rattle.command_rip.proofs.pieces.RipPieces.new.Goals as goal

pub returns : goal.returns
unfolding rip_samples
returns c =
    let memory = c.args.memory.now in
    let found = c.args.found.now in
    let bytes = wave_bytes (rip_samples memory found) in
    ap (λ (w : WalkState). header_of 1 (16 * found.blocks) ++ wave_bytes (samples_ahead memory w)) c.new.ensures.start
    ∙ ap (λ (n : ℕ). header_of 1 n ++ bytes) (sym (length-rip_samples memory found))
