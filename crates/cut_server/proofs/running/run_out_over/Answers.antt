use Rattle.std.proofs.Common.{arith, refl}
use Rattle.cut_server.proofs.Renders.{way_begun}
use Rattle.cut_server.proofs.running.run_out_over.Goals as goal

pub pieces-init : goal.pieces-init
pieces-init g c = (way_begun g.C.Chip.meaning c.args.render.now c.matches_its_book.ensures.fits, omega (arith, c.requires), refl)
