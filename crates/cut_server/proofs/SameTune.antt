-- What a server that keeps its tune keeps with it.
use Rattle.std.proofs.Common.{◌≡◌, ap}
use Rattle.chip_form.specs.ChipMeaning.{ChipMeaning}
use Rattle.chip_form.specs.ChipSaving.{ChipSaving}
use Rattle.cut_server.specs.ServerState.{frames_after}
use Rattle.cut_server.specs.Server.{ChipServer, lock_step_machines, frames_to, KeepsTune}

module _ {S V : Type 0} (chip : ChipMeaning S) (saving : ChipSaving S V) where
  pub frames_kept : {old new : ChipServer S V} → KeepsTune chip saving old new → frames_to chip saving new ≡ frames_to chip saving old
  frames_kept tune = ap (frames_after (lock_step_machines chip saving)) tune.start
