-- Both goings over a source together are its assembly.
use Rattle.std.proofs.Common.{◌≡◌, ℕ, List, ap}
use Rattle.std.specs.Prelude.{[], Option, None}
use Rattle.std.proofs.lemmas.Grind.{common_steps}
use Rattle.std.proofs.Common.{arith}
use Rattle.spc700_asm.specs.declared.refusal.AsmRefusal.{AsmRefusal}
use Rattle.spc700_asm.specs.declared.refusal.AsmRefusal.TheVariants as refusal
use Rattle.spc700_asm.specs.Labels.{labels_of}
use Rattle.spc700_asm.specs.Faults.{LineRefusal, first_refusal}
use Rattle.spc700_asm.specs.Assembly.{unless_refused, bytes_of_lines, lines_of, assembly, Refuses}
use Rattle.spc700_asm.specs.Names.{IsRefusal, AreFine}
use Rattle.spc700_asm.proofs.Emitted.{fine_from}

pub assembly_where_fine : (source : List ℕ) (origin : ℕ) → first_refusal origin [] (lines_of source) ≡ None → assembly source origin ≡ bytes_of_lines (labels_of origin (lines_of source)) origin 1 (lines_of source)
unfolding assembly
assembly_where_fine source origin none = ap (λ (o : Option LineRefusal). unless_refused o (bytes_of_lines (labels_of origin (lines_of source)) origin 1 (lines_of source))) none

pub assembly_refused : (source : List ℕ) (origin : ℕ) (r : AsmRefusal) → IsRefusal r (first_refusal origin [] (lines_of source)) → Refuses r (assembly source origin)
unfolding assembly
assembly_refused source origin refusal.OutOfMemory is = tt
assembly_refused source origin (refusal.Line number fault) is = ap (λ (o : Option LineRefusal). unless_refused o (bytes_of_lines (labels_of origin (lines_of source)) origin 1 (lines_of source))) is

pub lines_are_fine : (source : List ℕ) (origin : ℕ) → first_refusal origin [] (lines_of source) ≡ None → AreFine origin (lines_of source)
lines_are_fine source origin none = fine_from origin origin [] (lines_of source) (grind (arith, common_steps)) none
