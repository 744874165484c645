-- What an input gives: an SPC file, or a table of weights.
use Rattle.std.specs.Prelude.{ℕ, ◌+◌, ℤ, List, Option, Result, is_ok}
use Rattle.spc_form.specs.Accepted.{spc_file}
use Rattle.spc_form.specs.declared.reading.SpcRefusal.{SpcRefusal}
use Rattle.spc_form.specs.declared.reading.SpcRefusal.TheVariants as spc
use Rattle.gauss_table.specs.Weights.{weights_in}
use Rattle.gauss_table.specs.declared.refusal.TableRefusal.{TableRefusal}
use Rattle.gauss_table.specs.declared.refusal.TableRefusal.TheVariants as table
use Rattle.command_runner.specs.NamedInputs.{NamedInput}
use Rattle.command_runner.specs.declared.refusals.Refusal.{Refusal}
use Rattle.command_runner.specs.declared.refusals.Refusal.TheVariants.{Input, OutOfMemory}
use Rattle.exit_status.specs.declared.cause.Cause.{Cause}
use Rattle.exit_status.specs.declared.cause.Cause.TheVariants.{SpcLength, SpcSignature, TableLength, InputTooLong}
use Rattle.input_files.specs.Reading.{input_limit, bytes_in, value_from, refused_by}

-- the refusal of bytes that are no SPC file
abbrev pub spc_refusal : SpcRefusal → Refusal Cause
spc_refusal (spc.Length n) = Input (SpcLength n)
spc_refusal (spc.Signature at) = Input (SpcSignature at)
spc_refusal spc.OutOfMemory = OutOfMemory

-- the SPC file of these bytes
abbrev pub file_of : (bytes : List ℕ) → Result (List ℕ) (Refusal Cause)
file_of bytes = refused_by spc_refusal (spc_file bytes)

-- The same by what the input holds. Of a longer input one byte more than the greatest length is read.
abbrev pub file_in : (held : Option (List ℕ)) → Result (List ℕ) (Refusal Cause)
file_in held = value_from (bytes_in input_limit (SpcLength (input_limit + 1)) held) file_of

-- an input that is to hold an SPC file
abbrev pub spc_input : (name : List ℕ) → NamedInput
spc_input name = record { name = name; limit = input_limit; accepts = λ held. is_ok (file_in held) }

-- the refusal of bytes that are no table
abbrev pub table_refusal : TableRefusal → Refusal Cause
table_refusal (table.Length n) = Input (TableLength n)
table_refusal table.OutOfMemory = OutOfMemory

-- the table of these bytes
abbrev pub table_of : (bytes : List ℕ) → Result (List ℤ) (Refusal Cause)
table_of bytes = refused_by table_refusal (weights_in bytes)

-- the same by what the input holds
abbrev pub table_in : (held : Option (List ℕ)) → Result (List ℤ) (Refusal Cause)
table_in held = value_from (bytes_in input_limit InputTooLong held) table_of

-- an input that is to hold a table of weights
abbrev pub table_input : (name : List ℕ) → NamedInput
table_input name = record { name = name; limit = input_limit; accepts = λ held. is_ok (table_in held) }
