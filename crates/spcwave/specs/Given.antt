-- The edge of the program: what comes of what the command line gives.
use Rattle.std.specs.Prelude.{◌≡◌, ℕ, Some, map, string_bytes}
use Rattle.snd_host.specs.Host.{HostState}
use Rattle.command_runner.specs.RunCalls.{NotesLine}
use Rattle.command_runner.specs.declared.refusals.Refusal.TheVariants.{OutOfMemory}
use Rattle.exit_status.specs.declared.status.Status.{Status}
use Rattle.exit_status.specs.declared.status.Status.TheVariants as statuses
use Rattle.exit_status.specs.Lines.{end_line}
use Rattle.exit_status.specs.Statuses.{code_of}
use Rattle.command_line.specs.Command.{usage, command_of}
use Rattle.run_laws.specs.Run.{IsRun}
use Rattle.spcwave.specs.declared.given.Given.{Given}
use Rattle.spcwave.specs.declared.given.Given.TheVariants.{Words, NoText, NoMemory}

-- Words are run as the command that they say, and what is no text as no command. With no memory for the words nothing but its
-- line of complaint is written.
abbrev pub EndsAsGiven : Given → HostState → HostState → Status → Type 0
EndsAsGiven (Words words) old new status = IsRun (command_of (map string_bytes words.items)) old new status
EndsAsGiven NoText old new status = IsRun usage old new status
EndsAsGiven NoMemory old new status = (status ≡ statuses.OutOfMemory) × NotesLine (end_line (Some OutOfMemory)) old new

-- The process exits with the number of the status that it ends with.
abbrev pub ExitsWith : Given → HostState → HostState → (code : ℕ) → Type 0
ExitsWith given old new code = (status : Status) × (code ≡ code_of status) × EndsAsGiven given old new status
