use Rattle.std.proofs.Common.{◌≡◌, length, take}
use Rattle.cut_form.specs.Checkpoints.{pages_of}
use Rattle.cut_server.specs.Placing.{ArePlaced}
use Rattle.cut_server.proofs.pages.place_all.Given as goal

abbrev pub invariant-loop-page : goal.invariant-loop-page
invariant-loop-page l = (length l.pages ≡ 256) × ArePlaced l.fn.pool l.pool l.newest (pages_of l.memory) (take l.page l.pages)
