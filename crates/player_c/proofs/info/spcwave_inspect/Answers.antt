use Rattle.std.proofs.Common.{ap}
use Rattle.spc_form.specs.Accepted.{spc_file}
use Rattle.player_c.proofs.Inspected.{texts_stand}
use Rattle.player_c.proofs.info.spcwave_inspect.Goals as goal

pub returns-in-Ok-clause-texts : goal.returns-in-Ok-clause-texts
returns-in-Ok-clause-texts c = λ _.
    texts_stand c.args.spc.now (spc_file c.args.spc.now) c.in-Ok.found c.known.result.tags c.in-Ok.ensures.texts c.in-Ok.ensures.info (ap (λ known. known.tags) c.known.ensures)
