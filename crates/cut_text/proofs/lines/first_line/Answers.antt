use Rattle.std.proofs.Common.{ap}
use Rattle.std.specs.Prelude.{option_copied}
use Rattle.cut_text.proofs.FirstLine.{line_of_parts}
use Rattle.cut_text.proofs.lines.first_line.Goals as goal

pub returns-in-Some-clause-lines : goal.returns-in-Some-clause-lines
returns-in-Some-clause-lines c =
    rw c.without_return.ensures
    (line_of_parts c.args.text.now c.first_part.result.0.now c.in-Some.after.now (option_copied c.first_part.result.1) (ap option_copied c.in-Some.is) c.first_part.ensures.parts)
