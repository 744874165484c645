use Rattle.std.proofs.Common.{ap}
use Rattle.std.specs.Prelude.{option_copied}
use Rattle.cut_text.proofs.Listed.{no_cut}
use Rattle.cut_text.proofs.cuts.cut_in.Goals as goal

pub returns-in-Some-clause-cut : goal.returns-in-Some-clause-cut
returns-in-Some-clause-cut c =
    no_cut c.args.line.now c.first_part.result.0.now c.in_ok-rest.field-0.now c.first_part-2.result.0.now c.in-Some.field-0.now
    (option_copied c.first_part.result.1) (option_copied c.first_part-2.result.1)
    c.first_part.ensures.parts (ap option_copied c.in_ok-rest.was) c.first_part-2.ensures.parts (ap option_copied c.in-Some.is)
