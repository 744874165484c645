-- The calls of a command, by how it ends.
use Rattle.std.proofs.Common.{◌≡◌, ◌≢◌, ◌⊎◌, inl, inr, ℕ, ◌+◌, Bool, true, false, List, [], ◌∷◌, ◌++◌, length, Option, Some, Result, Ok, Err, refl, sym, ap, ◌∙◌, subst, arith}
use Rattle.std.specs.Prelude.{if◌then◌else◌}
use Rattle.std.proofs.lemmas.List.{append-nil}
use Rattle.snd_host.specs.Calls.{Call, opened, read}
use Rattle.snd_host.specs.History.{ended_of}
use Rattle.snd_host.specs.Host.{HostState}
use Rattle.snd_host.specs.Follows.{Since, IsCut, Follows}
use Rattle.snd_host.specs.Takes.{Takes}
use Rattle.snd_host.specs.declared.host.Failed.{Failed}
use Rattle.snd_host.proofs.CallsInOrder.{since_none, since_then}
use Rattle.snd_host.proofs.Taking.{ends_short}
use Rattle.command_runner.specs.InOrder.{Then}
use Rattle.command_runner.specs.NamedInputs.{NamedInput, Held, held_of, TakesInOrder}
use Rattle.command_runner.specs.Answer.{Answer, refused, delivery_refusal}
use Rattle.command_runner.specs.Conduct.{Delivery, Plans, PreparesBy, CarriesOut}
use Rattle.command_runner.specs.OutputCalls.{Order, at_once, DeliversAs}
use Rattle.command_runner.specs.RunCalls.{EndsRefused, DeliversAnswer, EndsBy, AttemptsBy}
use Rattle.command_runner.specs.declared.refusals.Refusal.{Refusal}
use Rattle.command_runner.specs.declared.refusals.Refusal.TheVariants.{Usage, ReadFault, WriteFault, OutOfMemory, Input}
use Rattle.command_runner.proofs.Flags.{prepared_keeps}
use Rattle.command_runner.proofs.Sequences.{Can, then_of, can_then, cut_second, cut_as, begun_second, begun_whole}

-- An input can be read, as one that holds no bytes.
pub can_take : (name : List ℕ) (limit : ℕ) → Can (Takes name limit [])
can_take name limit = (
  opened name 0 ∷ read 0 1 [] ∷ [],
  record { file = 0; reads = []; end = read 0 1 [] ∷ []; split = refl; each = tt; joined = refl; within = omega arith; ends = ends_short 0 limit 1 [] (omega arith) (omega arith) },
)

-- So can inputs be, one after another.
abbrev pub CanTake : List NamedInput → Type 0
CanTake inputs = (given : List (List ℕ)) × Can (TakesInOrder inputs given)

take_if : (b : Bool) (inputs : List NamedInput) → CanTake inputs → CanTake (if b then inputs else [])
take_if true inputs can = can
take_if false inputs can = ([], ([], (refl, refl)))

can_take_all : (inputs : List NamedInput) → CanTake inputs
can_take_all [] = ([], ([], (refl, refl)))
can_take_all (input ∷ inputs) =
    let rest = take_if (input.accepts (Some [])) inputs (can_take_all inputs) in
    ([] ∷ rest.0, can_then (Takes input.name input.limit []) (TakesInOrder (if input.accepts (Some []) then inputs else []) rest.0) (can_take input.name input.limit) rest.1)

pub can_take_after : (b : Bool) (inputs : List NamedInput) → CanTake (if b then inputs else [])
can_take_after b inputs = take_if b inputs (can_take_all inputs)

-- Calls for inputs that end with a refusal.

pub refused_as : {C : Type 0} (A B : List Call → Type 0) (P Q : Type 0) (why : Refusal C) (calls : List Call) → ((l : List Call) → A l → B l) → (P → Q) → EndsRefused A P why calls → EndsRefused B Q why calls
refused_as A B P Q Usage calls h k ends = absurd ends
refused_as A B P Q ReadFault calls h k ends = cut_as A B calls h ends
refused_as A B P Q WriteFault calls h k ends = absurd ends
refused_as A B P Q OutOfMemory calls h k ends = record { rest = ends.rest; whole = h _ ends.whole }
refused_as A B P Q (Input cause) calls h k ends = (h calls ends.0, k ends.1)

-- all calls were made, and then it was refused
pub refused_whole : {C : Type 0} (A : List Call → Type 0) (P : Type 0) (why : Refusal C) (calls : List Call) → A calls → why ≢ Usage → why ≢ ReadFault → why ≢ WriteFault → P ⊎ (why ≡ OutOfMemory) → EndsRefused A P why calls
refused_whole A P Usage calls does no_usage no_read no_write cause = absurd (no_usage refl)
refused_whole A P ReadFault calls does no_usage no_read no_write cause = absurd (no_read refl)
refused_whole A P WriteFault calls does no_usage no_read no_write cause = absurd (no_write refl)
refused_whole A P OutOfMemory calls does no_usage no_read no_write cause = begun_whole A calls does
refused_whole A P (Input cause) calls does no_usage no_read no_write (inl holds) = (does, holds)
refused_whole A P (Input cause) calls does no_usage no_read no_write (inr is) = absurd (cc)

-- an earlier thing was done
pub refused_second : {C : Type 0} (A B : List Call → Type 0) (P Q : Type 0) (why : Refusal C) (xs ys : List Call) → A xs → (P → Q) → EndsRefused B P why ys → EndsRefused (Then A B) Q why (xs ++ ys)
refused_second A B P Q Usage xs ys first k ends = absurd ends
refused_second A B P Q ReadFault xs ys first k ends = cut_second A B xs ys first ends
refused_second A B P Q WriteFault xs ys first k ends = absurd ends
refused_second A B P Q OutOfMemory xs ys first k ends = begun_second A B xs ys first ends
refused_second A B P Q (Input cause) xs ys first k ends = (then_of A B xs ys first ends.0, k ends.1)

-- How a command ends.

-- nothing was to be delivered
refused_end : {C : Type 0} (order : Order) (answer : Held → Answer C) (inputs : List NamedInput) (why : Refusal C) (n : ℕ) (given : List (List ℕ)) (taken : List Call) →
    EndsRefused (TakesInOrder inputs given) (answer (held_of given) ≡ refused why) why taken → EndsBy order answer inputs (Some why) n given taken []
refused_end order answer inputs Usage n given taken ends = absurd ends
refused_end order answer inputs ReadFault n given taken ends = (ends, refl)
refused_end order answer inputs WriteFault n given taken ends = absurd ends
refused_end order answer inputs OutOfMemory n given taken ends = (ends, refl)
refused_end order answer inputs (Input cause) n given taken ends = (ends.0, ends.1, refl)

by_refusal : {P C : Type 0} (order : Order) (makes : P → Delivery) (answer : Held → Answer C) (inputs : List NamedInput) (why : Refusal C) (x y : HostState) →
    PreparesBy makes answer inputs x y (Err why) → AttemptsBy order answer inputs (Some why) x y
by_refusal order makes answer inputs why x y p = record {
  given = p.given;
  taken = p.taken;
  made = [];
  since = subst (λ (l : List Call). Since l x y) (sym (append-nil p.taken)) p.since;
  ends = refused_end order answer inputs why (length (ended_of x.calls) + 2) p.given p.taken p.ends;
}

-- a delivery was made, whole or cut
by_delivery : {P C : Type 0} (order : Order) (makes : P → Delivery) (answer : Held → Answer C) (inputs : List NamedInput) (plan : P) (x y z : HostState) → ended_of y.calls ≡ ended_of x.calls → PreparesBy {C = C} makes answer inputs x y (Ok plan) → (outcome : Result (Unit {0}) Failed) →
    Follows (DeliversAs order (length (ended_of y.calls) + 2) (makes plan).outputs (makes plan).report) y z outcome → AttemptsBy order answer inputs (delivery_refusal outcome) x z
by_delivery {C = C} order makes answer inputs plan x y z same p (Ok t) d = record {
  given = p.given;
  taken = p.taken;
  made = d.calls;
  since = since_then p.taken d.calls x y z p.since d.since;
  ends = (
    p.ends.0,
    subst (λ (a : Answer C). DeliversAnswer order (length (ended_of x.calls) + 2) a d.calls) (sym p.ends.1)
        (subst (λ (l : List Bool). DeliversAs order (length l + 2) (makes plan).outputs (makes plan).report d.calls) same d.does),
  );
}
by_delivery {C = C} order makes answer inputs plan x y z same p (Err e) d = record {
  given = p.given;
  taken = p.taken;
  made = d.calls;
  since = since_then p.taken d.calls x y z p.since d.since;
  ends = (
    p.ends.0,
    cut_as (DeliversAs order (length (ended_of x.calls) + 2) (makes plan).outputs (makes plan).report) (DeliversAnswer order (length (ended_of x.calls) + 2) (answer (held_of p.given))) d.calls
        (λ l does. subst (λ (a : Answer C). DeliversAnswer order (length (ended_of x.calls) + 2) a l) (sym p.ends.1) does)
        (subst (λ (l : List Bool). IsCut (DeliversAs order (length l + 2) (makes plan).outputs (makes plan).report) d.calls) same d.does),
  );
}

-- words that say no command
pub attempts_usage : {C : Type 0} {order : Order} (x : HostState) → AttemptsBy {C = C} order (λ (held : Held). refused Usage) [] (Some Usage) x x
attempts_usage x = record { given = []; taken = []; made = []; since = since_none x; ends = ((refl, refl), refl, refl) }

-- a plan that stands on no input
pub prepares_unread : {P C : Type 0} (makes : P → Delivery) (answer : Answer C) (x : HostState) (prepared : Result P (Refusal C)) → Plans makes answer prepared → PreparesBy makes (λ (held : Held). answer) [] x x prepared
prepares_unread makes answer x (Ok plan) p = record { given = []; taken = []; since = since_none x; ends = ((refl, refl), p.ok) }
prepares_unread {P = P} {C = C} makes answer x (Err why) p = record {
  given = [];
  taken = [];
  since = since_none x;
  ends = refused_whole (TakesInOrder [] []) (answer ≡ refused why) why [] (refl, refl) (λ is. p.no_usage (ap (λ (r : Refusal C). Err r) is)) (λ is. p.no_read (ap (λ (r : Refusal C). Err r) is)) (λ is. p.no_write (ap (λ (r : Refusal C). Err r) is)) p.err;
}

-- A plan that was prepared is carried out.

pub carried_out : {P C : Type 0} {order : Order} (makes : P → Delivery) (plan : P) (x y : HostState) (outcome : Result (Unit {0}) Failed) →
    Follows (DeliversAs order (length (ended_of x.calls) + 2) (makes plan).outputs (makes plan).report) x y outcome → CarriesOut {C = C} order makes (Ok plan) x y (delivery_refusal outcome)
carried_out makes plan x y outcome f = record { ok = (outcome, refl, f); err = tt }

-- what was carried out is what was prepared, or whatever equals it
pub carries_same : {P C : Type 0} {order : Order} (makes : P → Delivery) (prepared passed : Result P (Refusal C)) (y z : HostState) (refusal : Option (Refusal C)) → CarriesOut order makes passed y z refusal → passed ≡ prepared → CarriesOut order makes prepared y z refusal
carries_same {P = P} {C = C} {order = order} makes prepared passed y z refusal c same = subst (λ (r : Result P (Refusal C)). CarriesOut order makes r y z refusal) same c

module _ {P C : Type 0} {inputs : List NamedInput} (makes : P → Delivery) (answer : Held → Answer C) (x y z : HostState) where
  carried_by : {order : Order} (prepared : Result P (Refusal C)) (refusal : Option (Refusal C)) → PreparesBy makes answer inputs x y prepared → CarriesOut order makes prepared y z refusal → AttemptsBy order answer inputs refusal x z
  carried_by {order = order} (Ok plan) refusal p c =
      subst (λ (r : Option (Refusal C)). AttemptsBy order answer inputs r x z) (sym c.ok.1)
      (by_delivery order makes answer inputs plan x y z (prepared_keeps makes answer inputs x y (Ok plan) p) p c.ok.0 c.ok.2)
  carried_by {order = order} (Err why) refusal p c =
      subst (λ (s : HostState). AttemptsBy order answer inputs refusal x s) (sym c.err.1)
      (subst (λ (r : Option (Refusal C)). AttemptsBy order answer inputs r x y) (sym c.err.0) (by_refusal order makes answer inputs why x y p))

  -- a command that answers what the call answers which carries its plan out
  pub attempts : {order : Order} (prepared : Result P (Refusal C)) (carried refusal : Option (Refusal C)) → PreparesBy makes answer inputs x y prepared → CarriesOut order makes prepared y z carried → carried ≡ refusal → AttemptsBy order answer inputs refusal x z
  attempts {order = order} prepared carried refusal p c is = subst (λ (r : Option (Refusal C)). AttemptsBy order answer inputs r x z) is (carried_by prepared carried p c)

pub attempts_no_usage : {P C : Type 0} {inputs : List NamedInput} {order : Order} (makes : P → Delivery) (answer : Held → Answer C) (x y z : HostState) (prepared : Result P (Refusal C)) (carried refusal : Option (Refusal C))
    → PreparesBy makes answer inputs x y prepared → CarriesOut order makes prepared y z carried → carried ≡ refusal → refusal ≡ Some Usage → ⊥
attempts_no_usage {P = P} {C = C} makes answer x y z (Ok plan) carried refusal p c same is = not_fault c.ok.0 (sym c.ok.1 ∙ same ∙ is)
  where
    not_fault : (outcome : Result (Unit {0}) Failed) → delivery_refusal {C = C} outcome ≡ Some Usage → ⊥
    not_fault (Ok t) wrong = cc
    not_fault (Err e) wrong = cc
attempts_no_usage {P = P} {C = C} {inputs = inputs} makes answer x y z (Err why) carried refusal p c same is =
    subst (λ (r : Refusal C). EndsRefused (TakesInOrder inputs p.given) (answer (held_of p.given) ≡ refused r) r p.taken) (inside why (sym c.err.0 ∙ same ∙ is)) p.ends
  where
    inside : (r : Refusal C) → Some r ≡ Some Usage → r ≡ Usage
    inside r h = cc

-- commands that read no input
pub attempts_unread : {P C : Type 0} (makes : P → Delivery) (answer : Answer C) (x z : HostState) (prepared : Result P (Refusal C)) (carried refusal : Option (Refusal C)) → Plans makes answer prepared → CarriesOut at_once makes prepared x z carried → carried ≡ refusal
    → AttemptsBy at_once (λ (held : Held). answer) [] refusal x z
attempts_unread makes answer x z prepared carried refusal p c same = attempts makes (λ (held : Held). answer) x x z prepared carried refusal (prepares_unread makes answer x prepared p) c same
