use Rattle.std.proofs.Common.{◌≡◌, length, take}
use Rattle.cut_form.specs.Checkpoints.{shared_with_newest, pages_of}
use Rattle.cut_server.specs.Table.{live_checkpoints}
use Rattle.cut_server.proofs.table.Table.shared_pages.Given as goal

abbrev pub invariant-loop-page : goal.invariant-loop-page
invariant-loop-page g l = (length l.shared ≡ 256) × (take l.page l.shared ≡ take l.page (shared_with_newest (live_checkpoints l.self) (pages_of l.memory)))
