-- What the calls of a command come to before its complaint, by how it ends. An end is that of the answer, or one of three others; where an input
-- could not be read or memory was wanting nothing was made, and where an output could not be written a front of the delivery was.
use Rattle.std.proofs.Common.{◌≡◌, ◌≢◌, inl, inr, ℕ, ◌+◌, ◌≤◌, Bool, List, [], ◌∷◌, ◌++◌, length, Option, Some, None, refl, sym, ap, ◌∙◌, subst}
use Rattle.std.specs.Prelude.{IsTrue}
use Rattle.std.proofs.lemmas.List.{append-nil}
use Rattle.snd_host.specs.Calls.{Call}
use Rattle.snd_host.specs.Host.{Output, IsPrefix}
use Rattle.snd_host.specs.Follows.{pushed, IsCut}
use Rattle.snd_host.proofs.CallsInOrder.{pushed_more}
use Rattle.command_runner.specs.Answer.{Answer, done, refused, refusal_of, outputs_of, report_of}
use Rattle.command_runner.specs.Delivery as delivery
use Rattle.command_runner.specs.Delivery.{EndedAreWhole, AreEndedInOrder, all_ended}
use Rattle.command_runner.specs.NamedInputs.{NamedInput, Held, held_of, are_some, TakesInOrder}
use Rattle.command_runner.specs.OutputCalls.{Order}
use Rattle.command_runner.specs.RunCalls.{DeliversAnswer, EndsBy}
use Rattle.command_runner.specs.declared.refusals.Refusal.{Refusal}
use Rattle.command_runner.specs.declared.refusals.Refusal.TheVariants.{Usage, ReadFault, WriteFault, OutOfMemory, Input}
use Rattle.snd_host.specs.History.{ended_of}
use Rattle.exit_status.proofs.Ends.{IsEnd}
use Rattle.run_laws.proofs.Counting.{Counts, counts_of, Standing, standing, input_failed, output_failed, taken_counts, taken_left, taken_cut_counts, taken_cut_left, taken_begun_counts, taken_begun_left, made_counts, made_cut_counts, made_cut_left}
use Rattle.run_laws.proofs.Cuts.{no_cut}
use Rattle.run_laws.proofs.Making.{grown, grown_none}
use Rattle.run_laws.proofs.Parting.{delivers_all, delivers_part}

-- the counts after an end
abbrev pub faulted : {C : Type 0} → Option (Refusal C) → Counts → Counts
faulted (Some ReadFault) c = input_failed c
faulted (Some WriteFault) c = output_failed c
faulted r c = c

pub faulted_note : {C : Type 0} (r : Option (Refusal C)) (c : Counts) → ((faulted r c).notes ≡ c.notes) × ((faulted r c).complaint ≡ c.complaint)
faulted_note None c = (refl, refl)
faulted_note (Some ReadFault) c = (refl, refl)
faulted_note (Some WriteFault) c = (refl, refl)
faulted_note (Some OutOfMemory) c = (refl, refl)
faulted_note (Some Usage) c = (refl, refl)
faulted_note (Some (Input cause)) c = (refl, refl)

pub faulted_inputs : {C : Type 0} (r : Option (Refusal C)) (c : Counts) → (r ≡ Some ReadFault → ⊥) → (faulted r c).inputs ≡ c.inputs
faulted_inputs None c other = refl
faulted_inputs (Some ReadFault) c other = absurd (other refl)
faulted_inputs (Some WriteFault) c other = refl
faulted_inputs (Some OutOfMemory) c other = refl
faulted_inputs (Some Usage) c other = refl
faulted_inputs (Some (Input cause)) c other = refl

pub faulted_outputs : {C : Type 0} (r : Option (Refusal C)) (c : Counts) → (r ≡ Some WriteFault → ⊥) → (faulted r c).outputs ≡ c.outputs
faulted_outputs None c other = refl
faulted_outputs (Some ReadFault) c other = refl
faulted_outputs (Some WriteFault) c other = absurd (other refl)
faulted_outputs (Some OutOfMemory) c other = refl
faulted_outputs (Some Usage) c other = refl
faulted_outputs (Some (Input cause)) c other = refl

-- What stands after an end, by the answer.
pub record Stands {C : Type 0} (a : Answer C) (r : Option (Refusal C)) (s now : Standing) : Type 0 where
  pub reported : List ℕ
  pub begun : List Output
  pub flags : List Bool
  pub left : now ≡ grown reported begun flags s
  pub settled : r ≡ refusal_of a → (reported ≡ report_of a) × (begun ≡ outputs_of a) × (flags ≡ all_ended (outputs_of a))
  pub prefix : r ≡ Some WriteFault → IsPrefix reported (report_of a)
  pub begins : r ≡ Some WriteFault → delivery.IsBegun begun (outputs_of a)
  pub ended_whole : r ≡ Some WriteFault → EndedAreWhole begun flags (outputs_of a)
  pub in_order : r ≡ Some WriteFault → AreEndedInOrder flags
  pub nothing : r ≢ None → r ≢ Some WriteFault → (reported ≡ []) × (begun ≡ []) × (flags ≡ [])
  pub report_last : reported ≢ [] → (begun ≡ outputs_of a) × (flags ≡ all_ended (outputs_of a))

refused_makes_none : {C : Type 0} (a : Answer C) (why : Refusal C) → Some why ≡ refusal_of a → ([] ≡ report_of a) × ([] ≡ outputs_of a) × ([] ≡ all_ended (outputs_of a))
refused_makes_none (done outputs report) why is = absurd (cc)
refused_makes_none (refused other) why is = (refl, refl, refl)

-- Nothing stands.
none_stands : {C : Type 0} (a : Answer C) (why : Refusal C) (s now : Standing) → why ≢ WriteFault → now ≡ s → Stands a (Some why) s now
none_stands {C = C} a why s now other same = record {
  reported = [];
  begun = [];
  flags = [];
  left = same ∙ sym (grown_none s);
  settled = refused_makes_none a why;
  prefix = λ is. absurd (other (inside why WriteFault is));
  begins = λ is. absurd (other (inside why WriteFault is));
  ended_whole = λ is. absurd (other (inside why WriteFault is));
  in_order = λ is. absurd (other (inside why WriteFault is));
  nothing = λ some not_write. (refl, refl, refl);
  report_last = λ some. absurd (some refl);
}
  where
    inside : (p q : Refusal C) → Some p ≡ Some q → p ≡ q
    inside p q h = cc

-- All stands.
all_stand : {C : Type 0} (order : Order) (n : ℕ) (a : Answer C) (made history : List Call) → n ≡ length (ended_of history) + 2 → DeliversAnswer order n a made → Stands a None (standing history) (standing (pushed made history))
all_stand order n (done outputs report) made history number does = record {
  reported = report;
  begun = outputs;
  flags = all_ended outputs;
  left = delivers_all order outputs report n made history number does;
  settled = λ is. (refl, refl, refl);
  prefix = λ wrong. absurd (cc);
  begins = λ wrong. absurd (cc);
  ended_whole = λ wrong. absurd (cc);
  in_order = λ wrong. absurd (cc);
  nothing = λ some not_write. absurd (some refl);
  report_last = λ some. (refl, refl);
}
all_stand order n (refused why) made history number does = absurd does

-- A part stands.
part_stands : {C : Type 0} (order : Order) (n : ℕ) (a : Answer C) (made history : List Call) → 2 ≤ n → n ≡ length (ended_of history) + 2 → IsCut (DeliversAnswer order n a) made → Stands a (Some WriteFault) (standing history) (standing (pushed made history))
part_stands {C = C} order n (done outputs report) made history high number cut =
    let part = delivers_part order outputs report n cut.done history number (record { rest = cut.call ∷ cut.rest; whole = cut.whole }) in
    record {
      reported = part.reported;
      begun = part.begun;
      flags = part.flags;
      left = made_cut_left {C = C} order n high (done outputs report) made history cut ∙ part.left;
      settled = λ wrong. absurd (cc);
      prefix = λ is. part.prefix;
      begins = λ is. part.begins;
      ended_whole = λ is. part.ended_whole;
      in_order = λ is. part.in_order;
      nothing = λ some not_write. absurd (not_write refl);
      report_last = part.report_last;
    }
part_stands order n (refused why) made history high number cut = absurd cut.whole

-- nothing was made
made_none : {A : Type 0} (f : List Call → A) (taken made history : List Call) → made ≡ [] → f (pushed (taken ++ made) history) ≡ f (pushed taken history)
made_none f taken made history none = ap (λ (l : List Call). f (pushed (taken ++ l) history)) none ∙ ap (λ (l : List Call). f (pushed l history)) (append-nil taken)

pub answer_accepted : {C : Type 0} (order : Order) (n : ℕ) (a : Answer C) (made : List Call) → DeliversAnswer order n a made → None ≡ refusal_of a
answer_accepted order n (done outputs report) made does = refl
answer_accepted order n (refused why) made does = absurd does

module _ {C : Type 0} (order : Order) (answer : Held → Answer C) (inputs : List NamedInput) (n : ℕ) (given : List (List ℕ)) (taken made history : List Call) where
  pub is_end : (r : Option (Refusal C)) → EndsBy order answer inputs r n given taken made → IsEnd r (answer (held_of given))
  is_end None ends = inl (answer_accepted order n (answer (held_of given)) made ends.1)
  is_end (Some WriteFault) ends = inr (inr (inl refl))
  is_end (Some ReadFault) ends = inr (inl refl)
  is_end (Some OutOfMemory) ends = inr (inr (inr refl))
  is_end (Some Usage) ends = inl (sym (ap refusal_of ends.1))
  is_end (Some (Input cause)) ends = inl (sym (ap refusal_of ends.1))

  -- Where an output could not be written, there were outputs or a report.
  pub cut_accepted : (r : Option (Refusal C)) → r ≡ Some WriteFault → EndsBy order answer inputs r n given taken made → refusal_of (answer (held_of given)) ≡ None
  cut_accepted r is ends = sym (answer_accepted order n (answer (held_of given)) _ (subst (λ (r : Option (Refusal C)). EndsBy order answer inputs r n given taken made) is ends).1.whole)

  pub names_input : (inputs : List NamedInput) → IsCut (TakesInOrder inputs given) taken → IsTrue (are_some inputs)
  names_input [] cut = absurd (no_cut given taken cut)
  names_input (input ∷ inputs) cut = refl

  pub end_counts : (r : Option (Refusal C)) → 2 ≤ n → EndsBy order answer inputs r n given taken made → counts_of (pushed (taken ++ made) history) ≡ faulted r (counts_of history)
  end_counts None high ends =
      ap counts_of (pushed_more taken made history) ∙ made_counts order n high (answer (held_of given)) made (pushed taken history) ends.1 ∙ taken_counts inputs given taken history ends.0
  end_counts (Some WriteFault) high ends =
      ap counts_of (pushed_more taken made history) ∙ made_cut_counts order n high (answer (held_of given)) made (pushed taken history) ends.1 ∙ ap output_failed (taken_counts inputs given taken history ends.0)
  end_counts (Some ReadFault) high ends = made_none counts_of taken made history ends.1 ∙ taken_cut_counts inputs given taken history ends.0
  end_counts (Some OutOfMemory) high ends = made_none counts_of taken made history ends.1 ∙ taken_begun_counts inputs given taken history ends.0
  end_counts (Some Usage) high ends = made_none counts_of taken made history ends.2 ∙ taken_counts inputs given taken history ends.0
  end_counts (Some (Input cause)) high ends = made_none counts_of taken made history ends.2 ∙ taken_counts inputs given taken history ends.0

  -- Where nothing was delivered, no output counts, whatever number it would have got.
  pub end_leaves_nothing : (r : Option (Refusal C)) → r ≢ None → r ≢ Some WriteFault → EndsBy order answer inputs r n given taken made → standing (pushed (taken ++ made) history) ≡ standing history
  end_leaves_nothing None some not_write ends = absurd (some refl)
  end_leaves_nothing (Some WriteFault) some not_write ends = absurd (not_write refl)
  end_leaves_nothing (Some ReadFault) some not_write ends = made_none standing taken made history ends.1 ∙ taken_cut_left inputs given taken history ends.0
  end_leaves_nothing (Some OutOfMemory) some not_write ends = made_none standing taken made history ends.1 ∙ taken_begun_left inputs given taken history ends.0
  end_leaves_nothing (Some Usage) some not_write ends = made_none standing taken made history ends.2 ∙ taken_left inputs given taken history ends.0
  end_leaves_nothing (Some (Input cause)) some not_write ends = made_none standing taken made history ends.2 ∙ taken_left inputs given taken history ends.0

  -- the number of the first output, after the calls for inputs
  number_after : n ≡ length (ended_of history) + 2 → standing (pushed taken history) ≡ standing history → n ≡ length (ended_of (pushed taken history)) + 2
  number_after number same = number ∙ ap (λ (s : Standing). length s.ended + 2) (sym same)

  pub end_stands : (r : Option (Refusal C)) → 2 ≤ n → n ≡ length (ended_of history) + 2 → EndsBy order answer inputs r n given taken made → Stands (answer (held_of given)) r (standing history) (standing (pushed (taken ++ made) history))
  end_stands None high number ends =
      let same = taken_left inputs given taken history ends.0 in
      subst (λ (s : Standing). Stands (answer (held_of given)) None s (standing (pushed (taken ++ made) history))) same
      (subst (λ (l : List Call). Stands (answer (held_of given)) None (standing (pushed taken history)) (standing l)) (sym (pushed_more taken made history))
      (all_stand order n (answer (held_of given)) made (pushed taken history) (number_after number same) ends.1))
  end_stands (Some WriteFault) high number ends =
      let same = taken_left inputs given taken history ends.0 in
      subst (λ (s : Standing). Stands (answer (held_of given)) (Some WriteFault) s (standing (pushed (taken ++ made) history))) same
      (subst (λ (l : List Call). Stands (answer (held_of given)) (Some WriteFault) (standing (pushed taken history)) (standing l)) (sym (pushed_more taken made history))
      (part_stands order n (answer (held_of given)) made (pushed taken history) high (number_after number same) ends.1))
  end_stands (Some ReadFault) high number ends =
      none_stands (answer (held_of given)) ReadFault (standing history) _ (λ wrong. absurd (cc)) (end_leaves_nothing (Some ReadFault) (λ wrong. absurd (cc)) (λ wrong. absurd (cc)) ends)
  end_stands (Some OutOfMemory) high number ends =
      none_stands (answer (held_of given)) OutOfMemory (standing history) _ (λ wrong. absurd (cc)) (end_leaves_nothing (Some OutOfMemory) (λ wrong. absurd (cc)) (λ wrong. absurd (cc)) ends)
  end_stands (Some Usage) high number ends =
      none_stands (answer (held_of given)) Usage (standing history) _ (λ wrong. absurd (cc)) (end_leaves_nothing (Some Usage) (λ wrong. absurd (cc)) (λ wrong. absurd (cc)) ends)
  end_stands (Some (Input cause)) high number ends =
      none_stands (answer (held_of given)) (Input cause) (standing history) _ (λ wrong. absurd (cc)) (end_leaves_nothing (Some (Input cause)) (λ wrong. absurd (cc)) (λ wrong. absurd (cc)) ends)
