-- The statuses: the number of each, and the end that each stands for.
use Rattle.std.specs.Prelude.{ℕ, Option, Some, None}
use Rattle.command_runner.specs.Answer.{Answer, refusal_of}
use Rattle.command_runner.specs.declared.refusals.Refusal.{Refusal}
use Rattle.command_runner.specs.declared.refusals.Refusal.TheVariants.{Usage, ReadFault, WriteFault, OutOfMemory, Input}
use Rattle.exit_status.specs.declared.cause.Cause.{Cause}
use Rattle.exit_status.specs.declared.cause.Cause.TheVariants.{SpcLength, SpcSignature, TableLength, BrrLength, WavForm, EncodeSize, InputTooLong, AsmLine, CodeLength, CutList, Script}
use Rattle.exit_status.specs.declared.status.Status.{Status}
use Rattle.exit_status.specs.declared.status.Status.TheVariants as statuses

-- the number of a status
abbrev pub code_of : Status → ℕ
code_of statuses.Ok = 0
code_of statuses.Usage = 1
code_of statuses.ReadFault = 2
code_of statuses.WriteFault = 3
code_of statuses.SpcLength = 4
code_of statuses.SpcSignature = 5
code_of statuses.TableLength = 6
code_of statuses.OutOfMemory = 7
code_of statuses.BrrLength = 8
code_of statuses.WavForm = 9
code_of statuses.EncodeSize = 10
code_of statuses.InputTooLong = 11
code_of statuses.AsmLine = 12
code_of statuses.CodeLength = 13
code_of statuses.CutList = 14
code_of statuses.Script = 15

abbrev pub cause_status : Cause → Status
cause_status (SpcLength n) = statuses.SpcLength
cause_status (SpcSignature at) = statuses.SpcSignature
cause_status (TableLength n) = statuses.TableLength
cause_status (BrrLength n) = statuses.BrrLength
cause_status WavForm = statuses.WavForm
cause_status (EncodeSize n) = statuses.EncodeSize
cause_status InputTooLong = statuses.InputTooLong
cause_status (AsmLine line fault) = statuses.AsmLine
cause_status (CodeLength n origin) = statuses.CodeLength
cause_status (CutList line) = statuses.CutList
cause_status (Script line) = statuses.Script

-- the status of an end: with this refusal, or with none
abbrev pub status_of : Option (Refusal Cause) → Status
status_of None = statuses.Ok
status_of (Some Usage) = statuses.Usage
status_of (Some ReadFault) = statuses.ReadFault
status_of (Some WriteFault) = statuses.WriteFault
status_of (Some OutOfMemory) = statuses.OutOfMemory
status_of (Some (Input cause)) = cause_status cause

abbrev pub answer_status : Answer Cause → Status
answer_status a = status_of (refusal_of a)

-- the end that a status without numbers stands for
abbrev pub end_without_numbers : Status → Option (Option (Refusal Cause))
end_without_numbers statuses.Ok = Some None
end_without_numbers statuses.Usage = Some (Some Usage)
end_without_numbers statuses.ReadFault = Some (Some ReadFault)
end_without_numbers statuses.WriteFault = Some (Some WriteFault)
end_without_numbers statuses.OutOfMemory = Some (Some OutOfMemory)
end_without_numbers statuses.SpcLength = None
end_without_numbers statuses.SpcSignature = None
end_without_numbers statuses.TableLength = None
end_without_numbers statuses.BrrLength = None
end_without_numbers statuses.WavForm = Some (Some (Input WavForm))
end_without_numbers statuses.EncodeSize = None
end_without_numbers statuses.InputTooLong = Some (Some (Input InputTooLong))
end_without_numbers statuses.AsmLine = None
end_without_numbers statuses.CodeLength = None
end_without_numbers statuses.CutList = None
end_without_numbers statuses.Script = None
