use Rattle.std.proofs.Common.{ap, refl}
use Rattle.std.specs.Prelude.{option_copied}
use Rattle.cut_form.specs.Script.{line_of_words}
use Rattle.cut_text.proofs.ThirdWord.{third_word}
use Rattle.cut_text.proofs.script_reading.line_after.Goals as goal

pub returns-in-Some-clause-line : goal.returns-in-Some-clause-line
returns-in-Some-clause-line c =
    third_word line_of_words (λ name word third more. refl) c.args.name.now c.args.rest.now c.first_part.result.0.now c.in-Some.field-0.now
    (option_copied c.first_part.result.1) c.first_part.ensures.parts (ap option_copied c.in-Some.is)
