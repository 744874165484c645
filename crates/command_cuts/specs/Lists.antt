-- The list of cuts that an input holds.
use Rattle.std.specs.Prelude.{ℕ, List, Option, Result}
use Rattle.cut_form.specs.declared.cut.Cut.{Cut}
use Rattle.cut_form.specs.CutList.{cut_list}
use Rattle.command_runner.specs.declared.refusals.Refusal.{Refusal}
use Rattle.command_runner.specs.declared.refusals.Refusal.TheVariants.{Input}
use Rattle.exit_status.specs.declared.cause.Cause.{Cause}
use Rattle.exit_status.specs.declared.cause.Cause.TheVariants.{InputTooLong, CutList}
use Rattle.input_files.specs.Reading.{input_limit, bytes_in, value_from, refused_by}

-- the refusal for a wrong line
abbrev pub list_refusal : (line : ℕ) → Refusal Cause
list_refusal line = Input (CutList line)

-- the cuts that these bytes list
abbrev pub cuts_of : (bytes : List ℕ) → Result (List Cut) (Refusal Cause)
cuts_of bytes = refused_by list_refusal (cut_list bytes)

-- the same by what the input holds
abbrev pub cuts_in : (held : Option (List ℕ)) → Result (List Cut) (Refusal Cause)
cuts_in held = value_from (bytes_in input_limit InputTooLong held) cuts_of
