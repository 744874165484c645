use Rattle.std.proofs.Common.{◌∙◌, ap}
use Rattle.dsp_core.specs.Saved.{SavedDsp}
use Rattle.spc_player.proofs.MutedTunes.{is_muted}
use Rattle.spc_player.proofs.muting.mute.Goals as goal

pub returns : goal.returns
returns c =
    is_muted c.args.muted c.with_muted-chip.result c.args.player.now c.restart.new.self
    (c.with_muted-chip.ensures ∙ ap (λ (s : SavedDsp). record s { muted = c.args.muted }) c.opening_chip.ensures) c.restart.ensures
