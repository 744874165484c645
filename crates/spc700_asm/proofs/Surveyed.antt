-- What holds of the first going over a source, before each line.
use Rattle.std.proofs.Common.{◌≡◌, ℕ, ◌+◌, ◌≤◌, ◌<◌, Bor, List, [], ◌∷◌, ◌++◌, length, map, refl, ap, sym, ◌∙◌, subst, append_assoc, append-nil, arith}
use Rattle.std.specs.Prelude.{Option, Some, None, IfSome, option_copied}
use Rattle.std.proofs.lemmas.Grind.{common_steps}
use Rattle.spc700_asm.specs.declared.names.Names.{Names}
use Rattle.spc700_asm.specs.declared.refusal.LineFault.{LineFault}
use Rattle.spc700_asm.specs.Statements.{Statement, statement_of}
use Rattle.spc700_asm.specs.Labels.{Labels, size_of_line, label_at, labels_of, end_of}
use Rattle.spc700_asm.specs.Faults.{LineRefusal, first_fault, refusal_or, first_refusal}
use Rattle.spc700_asm.specs.declared.refusal.LineError.{LineError}
use Rattle.spc700_asm.specs.declared.refusal.LineError.TheVariants as error
use Rattle.spc700_asm.specs.Seen.{length_left}
use Rattle.text_form.specs.Parts.{parts_left}
use Rattle.spc700_asm.specs.Refusals.{refusal_at}
use Rattle.spc700_asm.specs.Names.{Holds, IsFault, IsRefusal}
use Rattle.spc700_asm.proofs.LabelsAppend.{end_of_append, labels_of_append}

-- the lines before, and what they reported
pub record Surveyed (origin : ℕ) (all : List (Option Statement)) (at number : ℕ) (names : Names) (left : List (Option Statement)) : Type 0 where
  pub before : List (Option Statement)
  pub whole : before ++ left ≡ all
  pub refusal : first_refusal origin before left ≡ first_refusal origin [] all
  pub at_end : at ≡ end_of origin before
  pub counted : number ≡ length before + 1
  pub holds : Holds names (labels_of origin before)

pub surveyed_nothing : (origin : ℕ) (all : List (Option Statement)) (names : Names) → Holds names [] → Surveyed origin all origin 1 names all
unfolding labels_of
surveyed_nothing origin all names holds = record {
  before = [];
  whole = refl;
  refusal = refl;
  at_end = grind (arith, common_steps);
  counted = refl;
  holds = holds;
}

-- a line without a fault, and the lines after it
passed : (origin : ℕ) (before : List (Option Statement)) (line : Option Statement) (left : List (Option Statement)) → first_fault (labels_of origin before) (end_of origin before) line ≡ None → first_refusal origin before (line ∷ left) ≡ first_refusal origin (before ++ line ∷ []) left
unfolding first_refusal
passed origin before line left none = ap (λ (o : Option LineFault). refusal_or (length before + 1) o (first_refusal origin (before ++ line ∷ []) left)) none

refused : (origin : ℕ) (before : List (Option Statement)) (line : Option Statement) (left : List (Option Statement)) (fault : LineFault) → first_fault (labels_of origin before) (end_of origin before) line ≡ Some fault → first_refusal origin before (line ∷ left) ≡ Some (record { number = length before + 1; fault = fault })
unfolding first_refusal
refused origin before line left fault some = ap (λ (o : Option LineFault). refusal_or (length before + 1) o (first_refusal origin (before ++ line ∷ []) left)) some

nothing_left : (origin : ℕ) (before : List (Option Statement)) → first_refusal origin before [] ≡ None
unfolding first_refusal
nothing_left origin before = refl

-- the fault of the next line, whose names and address are those of the lines before it
pub fault_here : {origin : ℕ} {all : List (Option Statement)} {at number : ℕ} {names : Names} {line : Option Statement} {left : List (Option Statement)} (s : Surveyed origin all at number names (line ∷ left)) (o : Option LineFault) → first_fault (labels_of origin s.before) at line ≡ o → first_fault (labels_of origin s.before) (end_of origin s.before) line ≡ o
fault_here {origin} {all} {at} {number} {names} {line} {left} s o is = subst (λ (n : ℕ). first_fault (labels_of origin s.before) n line ≡ o) s.at_end is

pub surveyed_line : {origin : ℕ} {all : List (Option Statement)} {at number : ℕ} {names : Names} {line : Option Statement} {left : List (Option Statement)} (s : Surveyed origin all at number names (line ∷ left)) (next : ℕ) (more : Names) → first_fault (labels_of origin s.before) at line ≡ None → next ≡ at + size_of_line line → Holds more (labels_of origin s.before ++ label_at at line) → Surveyed origin all next (number + 1) more left
surveyed_line {origin} {all} {at} {number} {names} {line} {left} s next more none is holds = record {
  before = s.before ++ line ∷ [];
  whole = append_assoc s.before (line ∷ []) left ∙ s.whole;
  refusal = sym (passed origin s.before line left (fault_here s None none)) ∙ s.refusal;
  at_end = is ∙ ap (λ (n : ℕ). n + size_of_line line) s.at_end ∙ sym (end_of_append origin s.before line);
  counted = counts (s.counted);
  holds = subst (λ (labels : Labels). Holds more labels) (ap (λ (n : ℕ). labels_of origin s.before ++ label_at n line) s.at_end ∙ sym (labels_of_append origin s.before line)) holds;
}
  where
    counts : number ≡ length s.before + 1 → number + 1 ≡ length (s.before ++ line ∷ []) + 1
    counts e = grind (arith, common_steps)

pub surveyed_fault : {origin : ℕ} {all : List (Option Statement)} {at number : ℕ} {names : Names} {line : Option Statement} {left : List (Option Statement)} (s : Surveyed origin all at number names (line ∷ left)) (fault : LineFault) → first_fault (labels_of origin s.before) at line ≡ Some fault → first_refusal origin [] all ≡ Some (record { number = number; fault = fault })
surveyed_fault {origin} {all} {at} {number} {names} {line} {left} s fault some =
    sym s.refusal ∙ refused origin s.before line left fault (fault_here s (Some fault) some) ∙ ap (λ (n : ℕ). Some (refusal_of n)) (sym s.counted)
  where
    refusal_of : ℕ → LineRefusal
    refusal_of n = record { number = n; fault = fault }

pub surveyed_all : {origin : ℕ} {all : List (Option Statement)} {at number : ℕ} {names : Names} (s : Surveyed origin all at number names []) → (first_refusal origin [] all ≡ None) × Holds names (labels_of origin all)
surveyed_all {origin} {all} {at} {number} {names} s =
    (sym s.refusal ∙ nothing_left origin s.before, subst (λ (lines : List (Option Statement)). Holds names (labels_of origin lines)) (sym (append-nil s.before) ∙ s.whole) s.holds)

-- a text is left: its first line, and the lines after it
pub surveyed_text : {origin : ℕ} {all : List (Option Statement)} {at number : ℕ} {names : Names} (left : Option (List ℕ)) (text line : List ℕ) (after : Option (List ℕ)) → Surveyed origin all at number names (map statement_of (parts_left 10 left)) → left ≡ Some text → parts_left 10 (Some text) ≡ line ∷ parts_left 10 after → Surveyed origin all at number names (statement_of line ∷ map statement_of (parts_left 10 after))
surveyed_text {origin} {all} {at} {number} {names} left text line after s is parts =
    subst (λ (lines : List (List ℕ)). Surveyed origin all at number names (map statement_of lines)) (ap (parts_left 10) is ∙ parts) s

pub surveyed_no_text : {origin : ℕ} {all : List (Option Statement)} {at number : ℕ} {names : Names} (left : Option (List ℕ)) → Surveyed origin all at number names (map statement_of (parts_left 10 left)) → left ≡ None → Surveyed origin all at number names []
surveyed_no_text {origin} {all} {at} {number} {names} left s is =
    subst (λ (o : Option (List ℕ)). Surveyed origin all at number names (map statement_of (parts_left 10 o))) is s

pub surveyed_error : {origin : ℕ} {all : List (Option Statement)} {at number : ℕ} {names : Names} {line : Option Statement} {left : List (Option Statement)} (s : Surveyed origin all at number names (line ∷ left)) (e : LineError) → IsFault e (first_fault (labels_of origin s.before) at line) → IsRefusal (refusal_at number e) (first_refusal origin [] all)
surveyed_error s error.OutOfMemory is = tt
surveyed_error s (error.Fault fault) is = surveyed_fault s fault is

-- a line is counted off what is left
pub fewer_left : (number total : ℕ) (left : Option (List ℕ)) (text : List ℕ) (after : Option (Bor (List ℕ))) → number + length_left left ≤ total → left ≡ Some text → IfSome after (λ b. length b.now < length text) → number + 1 + length_left (option_copied after) ≤ total
fewer_left number total left text None few is shorter =
    let here : number + (1 + length text) ≤ total = subst (λ (o : Option (List ℕ)). number + length_left o ≤ total) is few in omega arith
fewer_left number total left text (Some b) few is shorter =
    let here : number + (1 + length text) ≤ total = subst (λ (o : Option (List ℕ)). number + length_left o ≤ total) is few in omega arith
