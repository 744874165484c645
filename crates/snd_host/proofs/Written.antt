-- What writes come to: their output is given their bytes. Cut ones wrote a prefix, and the last one is counted.
use Rattle.std.proofs.Common.{◌≡◌, ◌≢◌, ℕ, Bool, false, List, [], ◌∷◌, refl, sym, ap, ◌∙◌, subst, arith, if◌then◌else◌}
use Rattle.std.specs.Prelude.{◌==◌}
use Rattle.std.specs.List.{AllByRecursion}
use Rattle.snd_host.specs.Calls.{Call, not_written}
use Rattle.snd_host.specs.Host.{given_with, next_count}
use Rattle.snd_host.specs.History.{given_of, note_faults, out_faults}
use Rattle.snd_host.specs.Follows.{pushed, failure_of, IsCut, IsWrite, AreWrites, AddsPart, bytes_written}
use Rattle.snd_host.proofs.CallsInOrder.{pushed_more, bytes_more, kept-writes}
use Rattle.snd_host.proofs.EachCall.{all_first, one_of, write_is}
use Rattle.snd_host.proofs.Writes.{given_with-nil, given_with-given_with}

given_of-each : (file : ℕ) (calls before : List Call) → AllByRecursion (IsWrite file) calls → given_of (pushed calls before) ≡ given_with (given_of before) file (bytes_written calls)
given_of-each file [] before each = sym (given_with-nil (given_of before) file)
given_of-each file (c ∷ calls) before each =
    given_of-each file calls (c ∷ before) each.1
    ∙ write_is file (λ c. given_with (given_of (c ∷ before)) file (bytes_written calls) ≡ given_with (given_of before) file (bytes_written (c ∷ calls)))
    (λ bytes some. given_with-given_with (given_of before) file bytes (bytes_written calls)) c each.0

pub given_of-writes : (file : ℕ) (bytes : List ℕ) (calls before : List Call) → AreWrites file bytes calls → given_of (pushed calls before) ≡ given_with (given_of before) file bytes
given_of-writes file bytes calls before writes = given_of-each file calls before writes.each ∙ ap (given_with (given_of before) file) writes.joined

-- Writes that were cut.

counts_note : (file : ℕ) (piece : List ℕ) (before : List Call) → file ≡ 1 →
    (note_faults (not_written file piece ∷ before) ≡ next_count (note_faults before)) × (out_faults (not_written file piece ∷ before) ≡ out_faults before)
counts_note file piece before is =
    subst (λ (n : ℕ). (note_faults (not_written n piece ∷ before) ≡ next_count (note_faults before)) × (out_faults (not_written n piece ∷ before) ≡ out_faults before)) (sym is) (refl, refl)

other_number : (file : ℕ) → file ≢ 1 → (file == 1) ≡ false
other_number file other = grind (arith)

counts_output : (file : ℕ) (piece : List ℕ) (before : List Call) → file ≢ 1 →
    (out_faults (not_written file piece ∷ before) ≡ next_count (out_faults before)) × (note_faults (not_written file piece ∷ before) ≡ note_faults before)
counts_output file piece before other = (
  ap (λ (b : Bool). if b then out_faults before else next_count (out_faults before)) (other_number file other),
  ap (λ (b : Bool). if b then next_count (note_faults before) else note_faults before) (other_number file other),
)

pub cut_adds : (file : ℕ) (bytes : List ℕ) (calls before : List Call) → IsCut (AreWrites file bytes) calls → AddsPart file bytes before (pushed calls before)
cut_adds file bytes calls before cut = record {
  part = bytes_written cut.done;
  prefix = record { rest = bytes_written (cut.call ∷ cut.rest); split = sym (bytes_more cut.done (cut.call ∷ cut.rest)) ∙ cut.whole.joined };
  given = ap given_of last ∙ write_is file (λ c. given_of (failure_of c ∷ front) ≡ given_of front) (λ piece some. refl) cut.call parts.1 ∙ given_of-each file cut.done before parts.0;
  note = λ is.
      let counts = write_is file (λ c. (note_faults (failure_of c ∷ front) ≡ next_count (note_faults front)) × (out_faults (failure_of c ∷ front) ≡ out_faults front)) (λ piece some. counts_note file piece front is) cut.call parts.1 in
      (ap note_faults last ∙ counts.0 ∙ ap next_count notes, ap out_faults last ∙ counts.1 ∙ outputs);
  output = λ other.
      let counts = write_is file (λ c. (out_faults (failure_of c ∷ front) ≡ next_count (out_faults front)) × (note_faults (failure_of c ∷ front) ≡ note_faults front)) (λ piece some. counts_output file piece front other) cut.call parts.1 in
      (ap out_faults last ∙ counts.0 ∙ ap next_count outputs, ap note_faults last ∙ counts.1 ∙ notes);
}
  where
    front : List Call
    front = pushed cut.done before

    parts : AllByRecursion (IsWrite file) cut.done × IsWrite file cut.call
    parts = (all_first (IsWrite file) cut.done (cut.call ∷ cut.rest) cut.whole.each, one_of (IsWrite file) cut.done cut.rest cut.call cut.whole.each)

    last : pushed calls before ≡ failure_of cut.call ∷ front
    last = ap (λ (l : List Call). pushed l before) cut.cut ∙ pushed_more cut.done (failure_of cut.call ∷ []) before

    notes : note_faults front ≡ note_faults before
    notes = kept-writes file note_faults (λ bytes before. refl) cut.done before parts.0

    outputs : out_faults front ≡ out_faults before
    outputs = kept-writes file out_faults (λ bytes before. refl) cut.done before parts.0
