use Rattle.spc_form.proofs.Texts.{digits_pass}
use Rattle.spc_form.proofs.tags.number_in.Goals as goal

pub decimal_value-requires-clause-digits : goal.decimal_value-requires-clause-digits
decimal_value-requires-clause-digits c = digits_pass c.args.text.now c.digit_count-count.result c.digit_count-count.ensures.count
