-- A command makes no call after one that failed but its complaint, and no write of no bytes.
use Rattle.std.proofs.Common.{◌≡◌, inl, inr, ℕ, List, [], ◌∷◌, ◌++◌, Option, Some, None, refl, sym, ap, ◌∙◌, subst}
use Rattle.std.specs.List.{AllByRecursion}
use Rattle.std.proofs.lemmas.List.{append_assoc, append-nil}
use Rattle.snd_host.specs.Calls.{Call}
use Rattle.snd_host.specs.Follows.{failure_of, IsCut, IsBegun, AreWrites}
use Rattle.command_runner.specs.Answer.{Answer}
use Rattle.command_runner.specs.NamedInputs.{NamedInput, Held, held_of, TakesInOrder}
use Rattle.command_runner.specs.OutputCalls.{Order}
use Rattle.command_runner.specs.PlainCalls.{IsPlain, OnlyLastFails}
use Rattle.command_runner.specs.RunCalls.{DeliversAnswer, EndsBy, AreNoted}
use Rattle.command_runner.specs.declared.refusals.Refusal.{Refusal}
use Rattle.command_runner.specs.declared.refusals.Refusal.TheVariants.{Usage, ReadFault, WriteFault, OutOfMemory, Input}
use Rattle.snd_host.proofs.EachCall.{Each, all_first, one_of, each_written, each_then}
use Rattle.command_runner.proofs.EachCall.{each_for_inputs, each_for_outputs}

-- All that a thing is done by is plain.
abbrev AllPlain : List Call → Type 0
AllPlain calls = AllByRecursion IsPlain calls

abbrev Plain : (List Call → Type 0) → Type 0
Plain Does = Each IsPlain Does

whole_plain : (calls : List Call) → AllPlain calls → OnlyLastFails calls
whole_plain calls each = record { done = calls; last = []; split = sym (append-nil calls); plain = each; fails = inl refl }

cut_plain : (Does : List Call → Type 0) → Plain Does → (calls : List Call) → IsCut Does calls → OnlyLastFails calls
cut_plain Does plain calls cut =
    let each = plain _ cut.whole in
    record {
      done = cut.done;
      last = failure_of cut.call ∷ [];
      split = cut.cut;
      plain = all_first IsPlain cut.done (cut.call ∷ cut.rest) each;
      fails = inr (cut.call, one_of IsPlain cut.done cut.rest cut.call each, refl);
    }

begun_plain : (Does : List Call → Type 0) → Plain Does → (calls : List Call) → IsBegun Does calls → OnlyLastFails calls
begun_plain Does plain calls begun = whole_plain calls (all_first IsPlain calls begun.rest (plain _ begun.whole))

after_plain : (xs ys : List Call) → AllPlain xs → OnlyLastFails ys → OnlyLastFails (xs ++ ys)
after_plain xs ys first rest = record {
  done = xs ++ rest.done;
  last = rest.last;
  split = ap (λ (l : List Call). xs ++ l) rest.split ∙ sym (append_assoc xs rest.done rest.last);
  plain = each_then IsPlain xs rest.done first rest.plain;
  fails = rest.fails;
}

-- nothing comes after it
alone : (xs ys : List Call) → ys ≡ [] → OnlyLastFails xs → OnlyLastFails (xs ++ ys)
alone xs ys none only = subst OnlyLastFails (sym (ap (λ (l : List Call). xs ++ l) none ∙ append-nil xs)) only

in_order_plain : (inputs : List NamedInput) (given : List (List ℕ)) → Plain (TakesInOrder inputs given)
in_order_plain = each_for_inputs IsPlain (λ name file. tt) (λ file room bytes. tt)

delivers_plain : {C : Type 0} (order : Order) (n : ℕ) (a : Answer C) → Plain (DeliversAnswer order n a)
delivers_plain order n a = each_for_outputs IsPlain n (λ name file. tt) (λ file bytes among some. some) (λ file. tt) order a

writes_plain : (file : ℕ) (bytes : List ℕ) → Plain (AreWrites file bytes)
writes_plain file bytes = each_written file bytes IsPlain (λ piece some. some)

-- Whatever the end is.
pub ends_plain : {C : Type 0} (order : Order) (answer : Held → Answer C) (inputs : List NamedInput) (r : Option (Refusal C)) (n : ℕ) (given : List (List ℕ)) (taken made : List Call) → EndsBy order answer inputs r n given taken made → OnlyLastFails (taken ++ made)
ends_plain order answer inputs None n given taken made ends =
    after_plain taken made (in_order_plain inputs given taken ends.0) (whole_plain made (delivers_plain order n (answer (held_of given)) made ends.1))
ends_plain order answer inputs (Some WriteFault) n given taken made ends =
    after_plain taken made (in_order_plain inputs given taken ends.0) (cut_plain (DeliversAnswer order n (answer (held_of given))) (delivers_plain order n (answer (held_of given))) made ends.1)
ends_plain order answer inputs (Some ReadFault) n given taken made ends = alone taken made ends.1 (cut_plain (TakesInOrder inputs given) (in_order_plain inputs given) taken ends.0)
ends_plain order answer inputs (Some OutOfMemory) n given taken made ends = alone taken made ends.1 (begun_plain (TakesInOrder inputs given) (in_order_plain inputs given) taken ends.0)
ends_plain order answer inputs (Some Usage) n given taken made ends = alone taken made ends.2 (whole_plain taken (in_order_plain inputs given taken ends.0))
ends_plain order answer inputs (Some (Input cause)) n given taken made ends = alone taken made ends.2 (whole_plain taken (in_order_plain inputs given taken ends.0))

pub noted : (line : List ℕ) (note : List Call) → AreNoted line note → OnlyLastFails note
noted line note (inl writes) = whole_plain note (writes_plain 1 line note writes)
noted line note (inr cut) = cut_plain (AreWrites 1 line) (writes_plain 1 line) note cut
