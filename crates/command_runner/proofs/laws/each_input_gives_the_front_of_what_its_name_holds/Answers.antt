use Rattle.command_runner.proofs.FrontsHeld.{each_gave_front}
use Rattle.command_runner.proofs.laws.each_input_gives_the_front_of_what_its_name_holds.Goals as goal

pub returns : goal.returns
returns c = each_gave_front
