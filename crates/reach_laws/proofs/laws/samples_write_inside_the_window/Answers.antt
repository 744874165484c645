use Rattle.reach_laws.proofs.Within.{writes_inside}
use Rattle.reach_laws.proofs.laws.samples_write_inside_the_window.Goals as goal

pub returns : goal.returns
returns c = writes_inside
