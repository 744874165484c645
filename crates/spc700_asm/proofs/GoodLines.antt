-- Lines that define no name and have no fault are assembled to their bytes.
use Rattle.std.proofs.Common.{◌≡◌, ℕ, ◌+◌, List, [], ◌∷◌, ◌++◌, length, refl, ap, sym, ◌∙◌, arith}
use Rattle.std.specs.Prelude.{Option, None, Result, Ok}
use Rattle.std.proofs.lemmas.Grind.{common_steps}
use Rattle.spc700_asm.specs.declared.refusal.LineFault.{LineFault}
use Rattle.spc700_asm.specs.Statements.{Statement}
use Rattle.spc700_asm.specs.Labels.{Labels, label_at, labels_of, end_of, size_of_line}
use Rattle.spc700_asm.specs.Faults.{LineRefusal, first_fault, refusal_or, first_refusal}
use Rattle.spc700_asm.specs.Assembly.{line_bytes, line_then_lines, bytes_of_lines, unless_refused, assembly_of_lines}
use Rattle.spc700_asm.proofs.LabelsAppend.{end_of_append, labels_of_append}

-- each line has no fault and no name, and the bytes are theirs in order
abbrev pub Good : (at : ℕ) → List (Option Statement) → List ℕ → Type 0
Good at [] bytes = [] ≡ bytes
Good at (line ∷ lines) bytes = (b : List ℕ) × (rest : List ℕ) × (b ++ rest ≡ bytes) × (first_fault [] at line ≡ None) × (label_at at line ≡ []) × (line_bytes [] at line ≡ Ok b) × Good (at + size_of_line line) lines rest

good_labels : (at : ℕ) (lines : List (Option Statement)) (bytes : List ℕ) → Good at lines bytes → labels_of at lines ≡ []
unfolding labels_of
good_labels at [] bytes good = refl
good_labels at (line ∷ lines) bytes good =
    ap (λ (l : Labels). l ++ labels_of (at + size_of_line line) lines) good.4 ∙ good_labels (at + size_of_line line) lines good.1 good.6

good_refusal : (origin at : ℕ) (before lines : List (Option Statement)) (bytes : List ℕ) → labels_of origin before ≡ [] → at ≡ end_of origin before → Good at lines bytes → first_refusal origin before lines ≡ None
unfolding first_refusal
good_refusal origin at before [] bytes labels is good = refl
good_refusal origin at before (line ∷ lines) bytes labels is good =
    let here : first_fault (labels_of origin before) (end_of origin before) line ≡ None =
    ap (λ (l : Labels). first_fault l (end_of origin before) line) labels ∙ ap (λ (n : ℕ). first_fault [] n line) (sym is) ∙ good.3 in
    let more : labels_of origin (before ++ line ∷ []) ≡ [] =
    labels_of_append origin before line ∙ ap (λ (l : Labels). l ++ label_at (end_of origin before) line) labels ∙ ap (λ (n : ℕ). label_at n line) (sym is) ∙ good.4 in
    ap (λ (o : Option LineFault). refusal_or (length before + 1) o (first_refusal origin (before ++ line ∷ []) lines)) here
    ∙ good_refusal origin (at + size_of_line line) (before ++ line ∷ []) lines good.1 more (ap (λ (n : ℕ). n + size_of_line line) is ∙ sym (end_of_append origin before line)) good.6

good_bytes : (at number : ℕ) (lines : List (Option Statement)) (bytes : List ℕ) → Good at lines bytes → bytes_of_lines [] at number lines ≡ Ok bytes
unfolding bytes_of_lines
good_bytes at number [] bytes good = ap Ok good
good_bytes at number (line ∷ lines) bytes good =
    ap (λ (r : Result (List ℕ) LineFault). line_then_lines number r (bytes_of_lines [] (at + size_of_line line) (number + 1) lines)) good.5
    ∙ ap (line_then_lines number (Ok good.0)) (good_bytes (at + size_of_line line) (number + 1) lines good.1 good.6)
    ∙ ap Ok good.2

nothing_before : (origin : ℕ) → labels_of origin [] ≡ []
unfolding labels_of
nothing_before origin = refl

pub good_assembly : (origin : ℕ) (lines : List (Option Statement)) (bytes : List ℕ) → Good origin lines bytes → assembly_of_lines origin lines ≡ Ok bytes
good_assembly origin lines bytes good =
    let end : origin ≡ end_of origin [] = grind (arith, common_steps) in
    ap (λ (o : Option LineRefusal). unless_refused o (bytes_of_lines (labels_of origin lines) origin 1 lines)) (good_refusal origin origin [] lines bytes (nothing_before origin) end good)
    ∙ ap (λ (l : Labels). bytes_of_lines l origin 1 lines) (good_labels origin lines bytes good)
    ∙ good_bytes origin 1 lines bytes good
