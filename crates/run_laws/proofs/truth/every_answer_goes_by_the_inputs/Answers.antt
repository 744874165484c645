use Rattle.run_laws.proofs.GoesByInputs.{goes_by}
use Rattle.run_laws.proofs.truth.every_answer_goes_by_the_inputs.Goals as goal

pub returns : goal.returns
returns c = goes_by
