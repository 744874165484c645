-- What calls come to that are made for inputs, for outputs and for a line of complaint: in the counts of faults, in the complaint, and in what
-- stands of the outputs. Each kind of call leaves all that isn't its own as it was, and so do all calls of that kind; one that failed adds one to its
-- count.
use Rattle.std.proofs.Common.{◌≡◌, ◌≢◌, ◌⊎◌, inl, inr, ℕ, zero, suc, ◌≤◌, Bool, List, [], ◌∷◌, ◌++◌, if◌then◌else◌, refl, sym, ap, ◌∙◌, arith}
use Rattle.std.specs.List.{AllByRecursion}
use Rattle.std.proofs.lemmas.List.{append_assoc, append-nil}
use Rattle.snd_host.specs.Calls.{Call, wrote}
use Rattle.snd_host.specs.Host.{Output, next_count}
use Rattle.snd_host.specs.Follows.{pushed, failure_of, IsCut, IsBegun, IsWrite, AreWrites, bytes_written}
use Rattle.snd_host.proofs.CallsInOrder.{bytes_more}
use Rattle.command_runner.specs.Answer.{Answer}
use Rattle.command_runner.specs.NamedInputs.{NamedInput, TakesInOrder}
use Rattle.command_runner.specs.OutputCalls.{Order}
use Rattle.command_runner.specs.RunCalls.{DeliversAnswer}
use Rattle.snd_host.proofs.EachCall.{write_is, Each, all_first, one_of, each_written}
use Rattle.snd_host.proofs.Kept.{Keeps, kept, cut_is, kept_cut, kept_begun}
use Rattle.command_runner.proofs.Woven.{other_number}
use Rattle.snd_host.specs.History.{given_of, ended_of, in_faults, note_faults, out_faults}
use Rattle.command_runner.proofs.EachCall.{each_for_inputs, each_for_outputs}

pub record Counts : Type 0 where
  pub inputs : ℕ
  pub notes : ℕ
  pub outputs : ℕ
  pub complaint : List ℕ

abbrev pub counts_of : List Call → Counts
counts_of calls = record { inputs = in_faults calls; notes = note_faults calls; outputs = out_faults calls; complaint = (given_of calls).complaint }

-- what stands of the outputs
pub record Standing : Type 0 where
  pub report : List ℕ
  pub created : List Output
  pub ended : List Bool

abbrev pub standing : List Call → Standing
standing calls = record { report = (given_of calls).report; created = (given_of calls).created; ended = ended_of calls }

-- Calls for inputs.

abbrev pub input_failed : Counts → Counts
input_failed c = record c { inputs = next_count c.inputs }

abbrev InputFails : Call → Type 0
InputFails call = (history : List Call) → counts_of (failure_of call ∷ history) ≡ input_failed (counts_of history)

module _ (inputs : List NamedInput) (given : List (List ℕ)) where
  keep_counts : Each (Keeps counts_of) (TakesInOrder inputs given)
  keep_counts = each_for_inputs (Keeps counts_of) (λ name file history. refl) (λ file room bytes history. refl) inputs given

  keep_outputs : Each (Keeps standing) (TakesInOrder inputs given)
  keep_outputs = each_for_inputs (Keeps standing) (λ name file history. refl) (λ file room bytes history. refl) inputs given

  pub taken_counts : (taken history : List Call) → TakesInOrder inputs given taken → counts_of (pushed taken history) ≡ counts_of history
  taken_counts taken history takes = kept counts_of taken history (keep_counts taken takes)

  pub taken_left : (taken history : List Call) → TakesInOrder inputs given taken → standing (pushed taken history) ≡ standing history
  taken_left taken history takes = kept standing taken history (keep_outputs taken takes)

  -- where one failed
  pub taken_cut_counts : (taken history : List Call) → IsCut (TakesInOrder inputs given) taken → counts_of (pushed taken history) ≡ input_failed (counts_of history)
  taken_cut_counts taken history cut =
      let fails = each_for_inputs InputFails (λ name file history. refl) (λ file room bytes history. refl) inputs given _ cut.whole in
      cut_is counts_of (TakesInOrder inputs given) taken history cut
      ∙ one_of InputFails cut.done cut.rest cut.call fails (pushed cut.done history)
      ∙ ap input_failed (kept counts_of cut.done history (all_first (Keeps counts_of) cut.done (cut.call ∷ cut.rest) (keep_counts _ cut.whole)))

  pub taken_cut_left : (taken history : List Call) → IsCut (TakesInOrder inputs given) taken → standing (pushed taken history) ≡ standing history
  taken_cut_left = kept_cut standing (TakesInOrder inputs given) keep_outputs (each_for_inputs (λ call. Keeps standing (failure_of call)) (λ name file history. refl) (λ file room bytes history. refl) inputs given)

  -- where memory was wanting
  pub taken_begun_counts : (taken history : List Call) → IsBegun (TakesInOrder inputs given) taken → counts_of (pushed taken history) ≡ counts_of history
  taken_begun_counts = kept_begun counts_of (TakesInOrder inputs given) keep_counts

  pub taken_begun_left : (taken history : List Call) → IsBegun (TakesInOrder inputs given) taken → standing (pushed taken history) ≡ standing history
  taken_begun_left = kept_begun standing (TakesInOrder inputs given) keep_outputs

-- Calls for outputs and the report.

abbrev pub output_failed : Counts → Counts
output_failed c = record c { outputs = next_count c.outputs }

abbrev OutputFails : Call → Type 0
OutputFails call = (history : List Call) → counts_of (failure_of call ∷ history) ≡ output_failed (counts_of history)

-- Only the complaint has the number 1.
pub no_complaint : (n file : ℕ) → 2 ≤ n → (file ≡ 0) ⊎ (n ≤ file) → file ≢ 1
no_complaint n file high (inl report) is = absurd (omega arith)
no_complaint n file high (inr output) is = absurd (omega arith)

write_keeps : (file : ℕ) (bytes : List ℕ) → file ≢ 1 → Keeps counts_of (wrote file bytes)
write_keeps zero bytes other history = refl
write_keeps (suc zero) bytes other history = absurd (other refl)
write_keeps (suc (suc place)) bytes other history = refl

write_fails : (file : ℕ) (bytes : List ℕ) → file ≢ 1 → OutputFails (wrote file bytes)
write_fails file bytes other history =
    ap (λ (b : Bool). record (counts_of history) { notes = if b then next_count (note_faults history) else note_faults history; outputs = if b then out_faults history else next_count (out_faults history) }) (other_number file 1 other)

module _ {C : Type 0} (order : Order) (n : ℕ) (high : 2 ≤ n) (a : Answer C) where
  delivery_keeps : Each (Keeps counts_of) (DeliversAnswer order n a)
  delivery_keeps = each_for_outputs (Keeps counts_of) n (λ name file history. refl) (λ file bytes number some. write_keeps file bytes (no_complaint n file high number)) (λ file history. refl) order a

  pub made_counts : (made history : List Call) → DeliversAnswer order n a made → counts_of (pushed made history) ≡ counts_of history
  made_counts made history does = kept counts_of made history (delivery_keeps made does)

  pub made_cut_counts : (made history : List Call) → IsCut (DeliversAnswer order n a) made → counts_of (pushed made history) ≡ output_failed (counts_of history)
  made_cut_counts made history cut =
      let fails = each_for_outputs OutputFails n (λ name file history. refl) (λ file bytes number some. write_fails file bytes (no_complaint n file high number)) (λ file history. refl) order a _ cut.whole in
      cut_is counts_of (DeliversAnswer order n a) made history cut
      ∙ one_of OutputFails cut.done cut.rest cut.call fails (pushed cut.done history)
      ∙ ap output_failed (kept counts_of cut.done history (all_first (Keeps counts_of) cut.done (cut.call ∷ cut.rest) (delivery_keeps _ cut.whole)))

  -- the failed call leaves what stands
  pub made_cut_left : (made history : List Call) (cut : IsCut (DeliversAnswer order n a) made) → standing (pushed made history) ≡ standing (pushed cut.done history)
  made_cut_left made history cut =
      let fails = each_for_outputs (λ call. Keeps standing (failure_of call)) n (λ name file history. refl) (λ file bytes number some history. refl) (λ file history. refl) order a _ cut.whole in
      cut_is standing (DeliversAnswer order n a) made history cut
      ∙ one_of (λ call. Keeps standing (failure_of call)) cut.done cut.rest cut.call fails (pushed cut.done history)

-- Writes of a line of complaint.

abbrev pub complained : List ℕ → Counts → Counts
complained bytes c = record c { complaint = c.complaint ++ bytes }

abbrev pub note_failed : Counts → Counts
note_failed c = record c { notes = next_count c.notes }

pub notes_count : (note history : List Call) → AllByRecursion (IsWrite 1) note → counts_of (pushed note history) ≡ complained (bytes_written note) (counts_of history)
notes_count [] history each = ap (λ (l : List ℕ). record (counts_of history) { complaint = l }) (sym (append-nil (given_of history).complaint))
notes_count (c ∷ note) history each =
    notes_count note (c ∷ history) each.1
    ∙ write_is 1 (λ c. complained (bytes_written note) (counts_of (c ∷ history)) ≡ complained (bytes_written (c ∷ note)) (counts_of history))
    (λ bytes some. ap (λ (l : List ℕ). record (counts_of history) { complaint = l }) (append_assoc (given_of history).complaint bytes (bytes_written note))) c each.0

module _ (line : List ℕ) where
  pub note_counts : (note history : List Call) → AreWrites 1 line note → counts_of (pushed note history) ≡ complained line (counts_of history)
  note_counts note history writes = notes_count note history writes.each ∙ ap (λ (l : List ℕ). complained l (counts_of history)) writes.joined

  pub note_left : (note history : List Call) → AreWrites 1 line note → standing (pushed note history) ≡ standing history
  note_left note history writes = kept standing note history (each_written 1 line (Keeps standing) (λ piece some history. refl) note writes)

  pub note_cut_counts : (note history : List Call) (cut : IsCut (AreWrites 1 line) note) → counts_of (pushed note history) ≡ note_failed (complained (bytes_written cut.done) (counts_of history))
  note_cut_counts note history cut =
      let fails = each_written 1 line (λ call. (history : List Call) → counts_of (failure_of call ∷ history) ≡ note_failed (counts_of history)) (λ piece some history. refl) _ cut.whole in
      cut_is counts_of (AreWrites 1 line) note history cut
      ∙ one_of (λ call. (history : List Call) → counts_of (failure_of call ∷ history) ≡ note_failed (counts_of history)) cut.done cut.rest cut.call fails (pushed cut.done history)
      ∙ ap note_failed (notes_count cut.done history (all_first (IsWrite 1) cut.done (cut.call ∷ cut.rest) cut.whole.each))

  pub note_cut_left : (note history : List Call) → IsCut (AreWrites 1 line) note → standing (pushed note history) ≡ standing history
  note_cut_left = kept_cut standing (AreWrites 1 line) (each_written 1 line (Keeps standing) (λ piece some history. refl)) (each_written 1 line (λ call. Keeps standing (failure_of call)) (λ piece some history. refl))

nothing_joined : (xs ys : List ℕ) → xs ≢ [] → xs ++ ys ≡ [] → ⊥
nothing_joined [] ys some none = some refl
nothing_joined (x ∷ xs) ys some none = absurd (cc)

no_bytes_after : (xs ys : List ℕ) → xs ++ ys ≡ [] → ys ≡ []
no_bytes_after [] ys none = none
no_bytes_after (x ∷ xs) ys none = absurd (cc)

-- Where writes are cut, there is something to write.
pub no_cut_of_none : (file : ℕ) (calls : List Call) → IsCut (AreWrites file []) calls → ⊥
no_cut_of_none file calls cut =
    let one = one_of (IsWrite file) cut.done cut.rest cut.call cut.whole.each in
    let none = no_bytes_after (bytes_written cut.done) (bytes_written (cut.call ∷ cut.rest)) (sym (bytes_more cut.done (cut.call ∷ cut.rest)) ∙ cut.whole.joined) in
    write_is file (λ c. bytes_written (c ∷ cut.rest) ≡ [] → ⊥) (λ bytes some. nothing_joined bytes (bytes_written cut.rest) some) cut.call one none
