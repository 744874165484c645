-- What holds of the second going over a source, before each line.
use Rattle.std.proofs.Common.{◌≡◌, ℕ, ◌+◌, ◌≤◌, Bool, true, false, nat_lt, cond, List, [], ◌∷◌, ◌++◌, length, map, refl, ap, sym, ◌∙◌, subst, append_assoc, append-nil, arith}
use Rattle.std.specs.Prelude.{Option, Some, None, Result, Ok, Err}
use Rattle.std.proofs.lemmas.Bool.Decides.{nat_tests}
use Rattle.spc700_asm.specs.declared.names.Names.{Names}
use Rattle.spc700_asm.specs.declared.refusal.LineFault.{LineFault}
use Rattle.spc700_asm.specs.declared.refusal.LineFault.TheVariants as fault
use Rattle.spc700_asm.specs.declared.refusal.LineError.{LineError}
use Rattle.spc700_asm.specs.declared.refusal.LineError.TheVariants as error
use Rattle.spc700_asm.specs.Statements.{Statement, statement_of}
use Rattle.spc700_asm.specs.Labels.{Labels, size_of, size_of_line, labels_of, end_of}
use Rattle.spc700_asm.specs.Faults.{LineRefusal, has_great_number, defines_again, first_fault, refusal_or, first_refusal}
use Rattle.spc700_asm.specs.Assembly.{line_bytes, with_front, line_then_lines, bytes_of_lines, Refuses}
use Rattle.text_form.specs.Parts.{parts_left}
use Rattle.spc700_asm.specs.Refusals.{refusal_at}
use Rattle.spc700_asm.specs.Names.{Holds, Adds, IsBytesFault, IsFine, AreFine}
use Rattle.spc700_asm.proofs.LabelsAppend.{end_of_append}

-- a line that has no fault is fine
no_fault_is_fine : (labels : Labels) (at : ℕ) (line : Option Statement) → first_fault labels at line ≡ None → IsFine at line
no_fault_is_fine labels at None none = form_is none
  where
    form_is : Some fault.Form ≡ None → ⊥
    form_is e = cc
no_fault_is_fine labels at (Some s) none = by (has_great_number s) (defines_again labels s) (nat_lt 0x10000 (at + size_of s)) refl refl none
  where
    by : (great again long : Bool) → has_great_number s ≡ great → nat_lt 0x10000 (at + size_of s) ≡ long → cond great (Some fault.Number) (cond again (Some fault.Twice) (cond long (Some fault.Long) None)) ≡ None → (has_great_number s ≡ false) × (at + size_of s ≤ 0x10000)
    by true again long g l e = absurd (differ e)
      where
        differ : Some fault.Number ≡ None → ⊥
        differ e = cc
    by false true long g l e = absurd (differ e)
      where
        differ : Some fault.Twice ≡ None → ⊥
        differ e = cc
    by false false true g l e = absurd (differ e)
      where
        differ : Some fault.Long ≡ None → ⊥
        differ e = cc
    by false false false g l e = (g, le l)
      where
        le : nat_lt 0x10000 (at + size_of s) ≡ false → at + size_of s ≤ 0x10000
        le t = grind (arith, nat_tests)

abbrev refusal_of : ℕ → LineFault → LineRefusal
refusal_of number fault = record { number = number; fault = fault }

none_or : (number : ℕ) (o : Option LineFault) (others : Option LineRefusal) → refusal_or number o others ≡ None → (o ≡ None) × (others ≡ None)
none_or number None others e = (refl, e)
none_or number (Some fault) others e = absurd (differ e)
  where
    differ : Some (refusal_of number fault) ≡ None → ⊥
    differ e = cc

-- lines of which none has one of the first four faults are fine
pub fine_from : (origin at : ℕ) (before lines : List (Option Statement)) → at ≡ end_of origin before → first_refusal origin before lines ≡ None → AreFine at lines
unfolding first_refusal
fine_from origin at before [] is none = tt
fine_from origin at before (line ∷ lines) is none =
    let both = none_or (length before + 1) (first_fault (labels_of origin before) (end_of origin before) line) (first_refusal origin (before ++ line ∷ []) lines) none in (
      no_fault_is_fine (labels_of origin before) at line (subst (λ (n : ℕ). first_fault (labels_of origin before) n line ≡ None) (sym is) both.0),
      fine_from origin (at + size_of_line line) (before ++ line ∷ []) lines (ap (λ (n : ℕ). n + size_of_line line) is ∙ sym (end_of_append origin before line)) both.1,
    )

-- what was added, and the bytes of the lines that are left
pub record Emitted (origin : ℕ) (all : List (Option Statement)) (at number : ℕ) (names : Names) (out : List ℕ) (left : List (Option Statement)) : Type 0 where
  pub fine : AreFine at left
  pub bytes : (labels : Labels) → Holds names labels → with_front out (bytes_of_lines labels at number left) ≡ bytes_of_lines labels origin 1 all

prefixed_nothing : {E : Type 0} (r : Result (List ℕ) E) → with_front [] r ≡ r
prefixed_nothing (Ok bytes) = refl
prefixed_nothing (Err e) = refl

pub emitted_nothing : (origin : ℕ) (all : List (Option Statement)) (names : Names) → AreFine origin all → Emitted origin all origin 1 names [] all
emitted_nothing origin all names fine = record {
  fine = fine;
  bytes = λ labels holds. prefixed_nothing (bytes_of_lines labels origin 1 all);
}

-- the bytes of a line, and then those of the lines after it
after_line : (number : ℕ) (old new : List ℕ) (line : Result (List ℕ) LineFault) (others : Result (List ℕ) LineRefusal) → with_front old line ≡ Ok new → with_front new others ≡ with_front old (line_then_lines number line others)
after_line number old new (Err e) others is = absurd (differ is)
  where
    differ : ◌≡◌ {A = Result (List ℕ) LineFault} (Err e) (Ok new) → ⊥
    differ is = cc
after_line number old new (Ok bytes) (Err r) is = refl
after_line number old new (Ok bytes) (Ok more) is = ap Ok (ap (λ (front : List ℕ). front ++ more) (sym (ok_is is)) ∙ append_assoc old bytes more)
  where
    ok_is : ◌≡◌ {A = Result (List ℕ) LineFault} (Ok (old ++ bytes)) (Ok new) → old ++ bytes ≡ new
    ok_is e = cc

pub emitted_line : {origin : ℕ} {all : List (Option Statement)} {at number : ℕ} {names : Names} {old : List ℕ} {line : Option Statement} {left : List (Option Statement)} (s : Emitted origin all at number names old (line ∷ left)) (next : ℕ) (new : List ℕ) → next ≡ at + size_of_line line → ((labels : Labels) → Holds names labels → with_front old (line_bytes labels at line) ≡ Ok new) → Emitted origin all next (number + 1) names new left
unfolding bytes_of_lines
emitted_line {origin} {all} {at} {number} {names} {old} {line} {left} s next new is added = record {
  fine = subst (λ (n : ℕ). AreFine n left) (sym is) s.fine.1;
  bytes = λ labels holds.
      ap (λ (n : ℕ). with_front new (bytes_of_lines labels n (number + 1) left)) is
      ∙ after_line number old new (line_bytes labels at line) (bytes_of_lines labels (at + size_of_line line) (number + 1) left) (added labels holds)
      ∙ s.bytes labels holds;
}

pub emitted_error : {origin : ℕ} {all : List (Option Statement)} {at number : ℕ} {names : Names} {old : List ℕ} {line : Option Statement} {left : List (Option Statement)} (s : Emitted origin all at number names old (line ∷ left)) (e : LineError) (labels : Labels) → Holds names labels → IsBytesFault e (line_bytes labels at line) → Refuses (refusal_at number e) (bytes_of_lines labels origin 1 all)
unfolding bytes_of_lines
emitted_error s error.OutOfMemory labels holds is = tt
emitted_error {origin} {all} {at} {number} {names} {old} {line} {left} s (error.Fault fault) labels holds is =
    sym (s.bytes labels holds)
    ∙ ap (λ (r : Result (List ℕ) LineFault). with_front old (line_then_lines number r (bytes_of_lines labels (at + size_of_line line) (number + 1) left))) is

pub emitted_all : {origin : ℕ} {all : List (Option Statement)} {at number : ℕ} {names : Names} {out : List ℕ} (s : Emitted origin all at number names out []) (labels : Labels) → Holds names labels → bytes_of_lines labels origin 1 all ≡ Ok out
unfolding bytes_of_lines
emitted_all {out = out} s labels holds = sym (s.bytes labels holds) ∙ ap Ok (append-nil out)

-- a text is left: its first line, and the lines after it
pub emitted_text : {origin : ℕ} {all : List (Option Statement)} {at number : ℕ} {names : Names} {out : List ℕ} (left : Option (List ℕ)) (text line : List ℕ) (after : Option (List ℕ)) → Emitted origin all at number names out (map statement_of (parts_left 10 left)) → left ≡ Some text → parts_left 10 (Some text) ≡ line ∷ parts_left 10 after → Emitted origin all at number names out (statement_of line ∷ map statement_of (parts_left 10 after))
emitted_text {origin} {all} {at} {number} {names} {out} left text line after s is parts =
    subst (λ (lines : List (List ℕ)). Emitted origin all at number names out (map statement_of lines)) (ap (parts_left 10) is ∙ parts) s

pub emitted_no_text : {origin : ℕ} {all : List (Option Statement)} {at number : ℕ} {names : Names} {out : List ℕ} (left : Option (List ℕ)) → Emitted origin all at number names out (map statement_of (parts_left 10 left)) → left ≡ None → Emitted origin all at number names out []
emitted_no_text {origin} {all} {at} {number} {names} {out} left s is =
    subst (λ (o : Option (List ℕ)). Emitted origin all at number names out (map statement_of (parts_left 10 o))) is s

pub fault_of_adding : (old new : List ℕ) (bytes : Result (List ℕ) LineFault) (e : LineError) → Adds old new bytes (Err e) → IsBytesFault e bytes
fault_of_adding old new bytes error.OutOfMemory is = tt
fault_of_adding old new bytes (error.Fault fault) is = is
