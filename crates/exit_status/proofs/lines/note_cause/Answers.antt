use Rattle.std.proofs.Common.{List, ℕ, ◌++◌, subst}
use Rattle.std.specs.Prelude.{codes, decimal}
use Rattle.snd_host.specs.Follows.{AreWrites, Follows}
use Rattle.exit_status.proofs.lines.note_cause.Goals as goal

pub returns-in-WavForm : goal.returns-in-WavForm
returns-in-WavForm g c = rw c.in-WavForm.is c.write_all.ensures

pub returns-in-InputTooLong : goal.returns-in-InputTooLong
returns-in-InputTooLong g c = rw c.in-InputTooLong.is c.write_all-in-InputTooLong.ensures

pub returns-in-SpcSignature : goal.returns-in-SpcSignature
returns-in-SpcSignature g c = rw c.in-SpcSignature.is c.note_number-in-SpcSignature.ensures

pub returns-in-CutList : goal.returns-in-CutList
returns-in-CutList g c = rw c.in-CutList.is c.note_number-in-CutList.ensures

pub returns-in-Script : goal.returns-in-Script
returns-in-Script g c = rw c.in-Script.is c.note_number-in-Script.ensures

pub returns-in-AsmLine : goal.returns-in-AsmLine
returns-in-AsmLine g c =
    rw c.in-AsmLine.is
    (subst (λ (end : List ℕ). Follows (AreWrites 1 (codes "spcwave: line " ++ decimal c.in-AsmLine.line ++ end)) (g.H.Host.state c.args.host.now) (g.H.Host.state c.note_number-in-AsmLine.new.host) c.note_number-in-AsmLine.result)
    c.fault_end.ensures c.note_number-in-AsmLine.ensures)
