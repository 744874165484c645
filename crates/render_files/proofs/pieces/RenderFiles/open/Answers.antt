use Rattle.std.proofs.Common.{refl}
use Rattle.render_files.proofs.Waves.{whole_wave}
use Rattle.render_files.proofs.pieces.RenderFiles.open.Goals as goal

pub returns-clause-wave : goal.returns-clause-wave
returns-clause-wave g c = whole_wave _ _ c.args.samples c.args.fade refl c.requires.unmade.count
