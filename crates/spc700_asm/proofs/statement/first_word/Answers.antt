use Rattle.std.proofs.Common.{sym, ap}
use Rattle.spc700_asm.specs.Characters.{is_blank, trim}
use Rattle.text_form.proofs.Places.{after_none}
use Rattle.spc700_asm.proofs.statement.first_word.Goals as goal

pub returns-in-None-clause-after : goal.returns-in-None-clause-after
unfolding trim
returns-in-None-clause-after c = sym (ap trim (after_none is_blank c.args.text.now (sym c.in-None.ensures.place)))
