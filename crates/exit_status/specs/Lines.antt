-- The lines of complaint.
use Rattle.std.specs.Prelude.{ℕ, List, ◌++◌, Option, codes, decimal, unwrap_or}
use Rattle.text_form.specs.Digits.{four_digits}
use Rattle.command_runner.specs.Answer.{Answer, refusal_of, line_of}
use Rattle.command_runner.specs.declared.refusals.Refusal.{Refusal}
use Rattle.command_runner.specs.declared.refusals.Refusal.TheVariants.{Usage, ReadFault, WriteFault, OutOfMemory, Input}
use Rattle.exit_status.specs.declared.cause.LineFault.{LineFault}
use Rattle.exit_status.specs.declared.cause.LineFault.TheVariants as faults
use Rattle.exit_status.specs.declared.cause.Cause.{Cause}
use Rattle.exit_status.specs.declared.cause.Cause.TheVariants.{SpcLength, SpcSignature, TableLength, BrrLength, WavForm, EncodeSize, InputTooLong, AsmLine, CodeLength, CutList, Script}
use Rattle.exit_status.specs.declared.status.Status.{Status}
use Rattle.exit_status.specs.Statuses.{end_without_numbers}

-- the end of the line on a fault
abbrev pub fault_end : LineFault → List ℕ
fault_end faults.Form = codes ": form\n"
fault_end faults.Number = codes ": number\n"
fault_end faults.Twice = codes ": twice\n"
fault_end faults.Long = codes ": long\n"
fault_end faults.Name = codes ": name\n"
fault_end faults.Far = codes ": far\n"

-- the line on so many bytes of code from this address on
abbrev pub code_length_line : (length origin : ℕ) → List ℕ
code_length_line length origin = codes "spcwave: " ++ decimal length ++ codes " bytes do not fit at " ++ four_digits origin ++ codes "\n"

-- the line of complaint of a cause
abbrev pub cause_line : Cause → List ℕ
cause_line (SpcLength n) = codes "spcwave: length " ++ decimal n ++ codes " is not that of an SPC file\n"
cause_line (SpcSignature at) = codes "spcwave: signature differs at " ++ decimal at ++ codes "\n"
cause_line (TableLength n) = codes "spcwave: table has " ++ decimal n ++ codes " bytes, not 1024\n"
cause_line (BrrLength n) = codes "spcwave: length " ++ decimal n ++ codes " is not that of BRR blocks\n"
cause_line WavForm = codes "spcwave: not a mono 16-bit PCM WAV\n"
cause_line (EncodeSize n) = codes "spcwave: " ++ decimal n ++ codes " samples cannot be encoded\n"
cause_line InputTooLong = codes "spcwave: input is too long\n"
cause_line (AsmLine line fault) = codes "spcwave: line " ++ decimal line ++ fault_end fault
cause_line (CodeLength n origin) = code_length_line n origin
cause_line (CutList line) = codes "spcwave: cut list is wrong at line " ++ decimal line ++ codes "\n"
cause_line (Script line) = codes "spcwave: script is wrong at line " ++ decimal line ++ codes "\n"

-- the line of complaint of a refusal
abbrev pub refusal_line : Refusal Cause → List ℕ
refusal_line Usage = codes "spcwave: words not understood\n"
refusal_line ReadFault = codes "spcwave: input could not be read\n"
refusal_line WriteFault = codes "spcwave: output could not be written\n"
refusal_line OutOfMemory = codes "spcwave: out of memory\n"
refusal_line (Input cause) = cause_line cause

-- the line of complaint of an end: none where nothing was refused
abbrev pub end_line : Option (Refusal Cause) → List ℕ
end_line refusal = line_of refusal_line refusal

-- the line of a status, with the numbers of the answer where it has numbers
abbrev pub status_line : Status → Answer Cause → List ℕ
status_line status a = end_line (unwrap_or (end_without_numbers status) (refusal_of a))
