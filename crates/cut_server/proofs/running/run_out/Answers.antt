use Rattle.cut_server.proofs.Renders.{way_begun}
use Rattle.cut_server.proofs.running.run_out.Goals as goal

pub pieces-init : goal.pieces-init
pieces-init g c = way_begun g.C.Chip.meaning c.args.render.now c.matches_its_book.ensures.fits
