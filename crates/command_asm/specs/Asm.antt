-- What `asm` answers.
use Rattle.std.specs.Prelude.{ℕ, List, [], ◌∷◌, ◌++◌, length, Option, codes, decimal}
use Rattle.spc700_asm.specs.Faults.{LineRefusal}
use Rattle.spc700_asm.specs.Assembly.{assembly}
use Rattle.spc700_asm.specs.declared.refusal.LineFault.{LineFault}
use Rattle.spc700_asm.specs.declared.refusal.LineFault.TheVariants as source
use Rattle.command_runner.specs.Answer.{Answer, done}
use Rattle.command_runner.specs.declared.refusals.Refusal.{Refusal}
use Rattle.command_runner.specs.declared.refusals.Refusal.TheVariants.{Input}
use Rattle.input_files.specs.Reading.{input_limit, bytes_in, answer_from, refused_by}
use Rattle.exit_status.specs.declared.cause.LineFault as known
use Rattle.exit_status.specs.declared.cause.LineFault.TheVariants as complaint
use Rattle.exit_status.specs.declared.cause.Cause.{Cause}
use Rattle.exit_status.specs.declared.cause.Cause.TheVariants.{InputTooLong, AsmLine}

-- what is wrong with a line, as the complaint says it
abbrev pub fault_text : LineFault → known.LineFault
fault_text source.Form = complaint.Form
fault_text source.Number = complaint.Number
fault_text source.Twice = complaint.Twice
fault_text source.Long = complaint.Long
fault_text source.Name = complaint.Name
fault_text source.Far = complaint.Far

-- the refusal of a source for one of its lines
abbrev pub line_refusal : LineRefusal → Refusal Cause
line_refusal refusal = Input (AsmLine refusal.number (fault_text refusal.fault))

abbrev pub asm_report : (code : List ℕ) → List ℕ
asm_report code = codes "bytes " ++ decimal (length code) ++ codes "\n"

-- what a source that was assembled to this code answers
abbrev pub code_answer : (output code : List ℕ) → Answer Cause
code_answer output code = done (record { name = output; bytes = code } ∷ []) (asm_report code)

-- what the assembling of this source to this name answers
abbrev pub source_answer : (origin : ℕ) → (output source : List ℕ) → Answer Cause
source_answer origin output source = answer_from (refused_by line_refusal (assembly source origin)) (code_answer output)

-- the same by what the input holds
abbrev pub asm_answer : (origin : ℕ) → (output : List ℕ) → (held : Option (List ℕ)) → Answer Cause
asm_answer origin output held = answer_from (bytes_in input_limit InputTooLong held) (source_answer origin output)
