use Rattle.player.proofs.Heard.{marks_stay, heard_is_near, heard_from_a_mark}
use Rattle.player.proofs.laws.what_was_heard_is_near.Goals as goal

pub returns-clause-stay : goal.returns-clause-stay
returns-clause-stay c = marks_stay

pub returns-clause-near : goal.returns-clause-near
returns-clause-near c = heard_is_near

pub returns-clause-from_a_mark : goal.returns-clause-from_a_mark
returns-clause-from_a_mark c = heard_from_a_mark
