-- What a command answers, and its line of complaint. `C` is why the bytes of an input are refused; the program says it, and the lines.
use Rattle.std.specs.Prelude.{ℕ, List, [], Option, Some, None, Result, Ok, Err}
use Rattle.snd_host.specs.Host.{Output}
use Rattle.snd_host.specs.declared.host.Failed.{Failed}
use Rattle.command_runner.specs.declared.refusals.Refusal.{Refusal}
use Rattle.command_runner.specs.declared.refusals.Refusal.TheVariants.{WriteFault}

-- What a command answers: its outputs in order and its report, or why it is refused.
pub data Answer (C : Type 0) : Type 0 where
  done : List Output → List ℕ → Answer C
  refused : Refusal C → Answer C

abbrev pub refusal_of : {C : Type 0} → Answer C → Option (Refusal C)
refusal_of (done outputs report) = None
refusal_of (refused refusal) = Some refusal

abbrev pub outputs_of : {C : Type 0} → Answer C → List Output
outputs_of (done outputs report) = outputs
outputs_of (refused refusal) = []

abbrev pub report_of : {C : Type 0} → Answer C → List ℕ
report_of (done outputs report) = report
report_of (refused refusal) = []

-- The line of complaint of an end: none where nothing was refused. `line` is the line of a refusal.
abbrev pub line_of : {C : Type 0} → (Refusal C → List ℕ) → Option (Refusal C) → List ℕ
line_of line None = []
line_of line (Some refusal) = line refusal

-- the refusal of a delivery
abbrev pub delivery_refusal : {C : Type 0} → Result (Unit {0}) Failed → Option (Refusal C)
delivery_refusal (Ok x) = None
delivery_refusal (Err e) = Some WriteFault
