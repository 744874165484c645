-- The script that an input holds.
use Rattle.std.specs.Prelude.{ℕ, List, Option, Result}
use Rattle.cut_form.specs.declared.script.ScriptLine.{ScriptLine}
use Rattle.cut_form.specs.Script.{script_lines}
use Rattle.command_runner.specs.declared.refusals.Refusal.{Refusal}
use Rattle.command_runner.specs.declared.refusals.Refusal.TheVariants.{Input}
use Rattle.exit_status.specs.declared.cause.Cause.{Cause}
use Rattle.exit_status.specs.declared.cause.Cause.TheVariants.{InputTooLong, Script}
use Rattle.input_files.specs.Reading.{input_limit, bytes_in, value_from, refused_by}

-- the refusal for a wrong line
abbrev pub script_refusal : (line : ℕ) → Refusal Cause
script_refusal line = Input (Script line)

-- the lines of these bytes
abbrev pub script_of : (bytes : List ℕ) → Result (List ScriptLine) (Refusal Cause)
script_of bytes = refused_by script_refusal (script_lines bytes)

-- the same by what the input holds
abbrev pub script_in : (held : Option (List ℕ)) → Result (List ScriptLine) (Refusal Cause)
script_in held = value_from (bytes_in input_limit InputTooLong held) script_of
