use Rattle.command_runner.proofs.Writing.{noted, silent}
use Rattle.command_runner.proofs.complaints.complain.Goals as goal

pub returns-in-None-clause-complained : goal.returns-in-None-clause-complained
returns-in-None-clause-complained g c = rw c.in-None.is (silent _)

pub returns-in-Some-clause-complained : goal.returns-in-Some-clause-complained
returns-in-Some-clause-complained g c = rw c.in-Some.is (noted _ _ _ _ c.write_line.ensures)
