use Rattle.std.proofs.Common.{sym}
use Rattle.text_form.proofs.Places.{before_place, before_none}
use Rattle.spc_form.proofs.tags.before_zero.Goals as goal

pub returns-in-Some-clause-text : goal.returns-in-Some-clause-text
returns-in-Some-clause-text c = sym (before_place _ c.args.field.now c.in-Some.end (sym c.in-Some.ensures.place))

pub returns-in-None-clause-text : goal.returns-in-None-clause-text
returns-in-None-clause-text c = sym (before_none _ c.args.field.now (sym c.in-None.ensures.place))
