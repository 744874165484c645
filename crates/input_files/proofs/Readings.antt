-- What is read of an input, and what commands prepare after it. An input that was refused is the last; one that was accepted comes before those of the rest.
use Rattle.std.proofs.Common.{◌≡◌, ◌⊎◌, inl, inr, ap, sym, subst, ◌∙◌, refl, ℕ, ◌<◌, ◌≤◌, length, Bool, List, [], ◌∷◌, ◌++◌, Option, Some, Result, Ok, Err}
use Rattle.std.specs.Prelude.{true, false, is_ok, if◌then◌else◌}
use Rattle.std.proofs.lemmas.Bool.{lt-ltb, le-ltb}
use Rattle.std.proofs.lemmas.List.{append-nil}
use Rattle.snd_host.specs.Calls.{Call}
use Rattle.snd_host.specs.Host.{HostState}
use Rattle.snd_host.specs.Takes.{Takes}
use Rattle.snd_host.proofs.CallsInOrder.{since_then}
use Rattle.command_runner.specs.NamedInputs.{NamedInput, Held, TakesInOrder, first as first_held, later, held_of}
use Rattle.command_runner.specs.Answer.{Answer, refused}
use Rattle.command_runner.specs.Conduct.{Delivery, Plans, PreparesBy}
use Rattle.command_runner.specs.RunCalls.{EndsRefused}
use Rattle.command_runner.specs.declared.refusals.Refusal.{Refusal}
use Rattle.command_runner.specs.declared.refusals.Refusal.TheVariants.{Usage, ReadFault, WriteFault, OutOfMemory, Input}
use Rattle.command_runner.proofs.Attempting.{can_take_after, refused_as, refused_second, refused_whole, prepares_unread}
use Rattle.command_runner.proofs.Sequences.{then_of, cut_first, begun_first}
use Rattle.input_files.specs.Reading.{bytes_in, value_from, refused_by, answer_from, Declines, Accepts, Reads}

-- what was refused by itself is refused for the command
inside : {T C : Type 0} (why other : Refusal C) → ◌≡◌ {A = Result T (Refusal C)} (Err why) (Err other) → why ≡ other
inside why other same = cc

declined : {T C : Type 0} (given : Result T (Refusal C)) (next : T → Answer C) (why : Refusal C) →
    (given ≡ Err why) ⊎ (why ≡ OutOfMemory) → (answer_from given next ≡ refused why) ⊎ (why ≡ OutOfMemory)
declined {C = C} given next why (inl is) = inl (ap (λ g. answer_from g next) is)
declined given next why (inr memory) = inr memory

pub plans_declined : {T P C : Type 0} (makes : P → Delivery) (given : Result T (Refusal C)) (next : T → Answer C) (why : Refusal C) →
    Declines given why → Plans makes (answer_from given next) (Err why)
plans_declined {P = P} makes given next why d = record {
  ok = tt;
  err = declined given next why d.known;
  no_usage = λ is. d.no_usage (inside {T = P} why Usage is);
  no_read = λ is. d.no_read (inside {T = P} why ReadFault is);
  no_write = λ is. d.no_write (inside {T = P} why WriteFault is);
}

-- after the last input none is reached
none_after : {T : Type 0} (accepted : Bool) → ◌≡◌ {A = List T} (if accepted then [] else []) []
none_after true = refl
none_after false = refl

-- The calls for an input that was refused, before others.
module _ {T P C : Type 0} (input : NamedInput) (inputs : List NamedInput) (makes : P → Delivery) (given : Option (List ℕ) → Result T (Refusal C)) (next : Held → T → Answer C) (x y : HostState) where
  abbrev rest_after : (bytes : List ℕ) → List NamedInput
  rest_after bytes = if input.accepts (Some bytes) then inputs else []

  abbrev takes : (bytes : List ℕ) → List Call → Type 0
  takes bytes = Takes input.name input.limit bytes

  -- it was read whole, and no other after it
  read_last : (bytes : List ℕ) (taken : List Call) (why : Refusal C) → rest_after bytes ≡ [] → takes bytes taken → given (Some bytes) ≡ Err why →
      TakesInOrder (input ∷ inputs) (bytes ∷ []) taken × (answer_from (given (Some bytes)) (next []) ≡ refused why)
  read_last bytes taken why none takes is = (
    record { front = taken; back = []; split = sym (append-nil taken); does_first = takes; does_second = subst (λ (l : List NamedInput). TakesInOrder l [] []) (sym none) (refl, refl) },
    ap (λ g. answer_from g (next [])) is,
  )

  declined_calls : (why : Refusal C) → ((bytes : List ℕ) → given (Some bytes) ≡ Err why → rest_after bytes ≡ []) → Reads input.name input.limit given x y (Err why) →
      PreparesBy makes (λ held. answer_from (given (first_held held)) (next (later held))) (input ∷ inputs) x y (Err why)
  declined_calls Usage none r = absurd r.ends
  declined_calls ReadFault none r =
      let rest = can_take_after (input.accepts (Some r.bytes)) inputs in
      record { given = r.bytes ∷ rest.0; taken = r.taken; since = r.since; ends = cut_first (takes r.bytes) (TakesInOrder (rest_after r.bytes) rest.0) r.taken r.ends rest.1 }
  declined_calls WriteFault none r = absurd r.ends
  declined_calls OutOfMemory none r =
      let rest = can_take_after (input.accepts (Some r.bytes)) inputs in
      record { given = r.bytes ∷ rest.0; taken = r.taken; since = r.since; ends = begun_first (takes r.bytes) (TakesInOrder (rest_after r.bytes) rest.0) r.taken r.ends rest.1 }
  declined_calls (Input cause) none r = record { given = r.bytes ∷ []; taken = r.taken; since = r.since; ends = read_last r.bytes r.taken (Input cause) (none r.bytes r.ends.1) r.ends.0 r.ends.1 }

  -- The calls for an input that was accepted, and those for the rest.
  accepted_calls : (z : HostState) (value : T) (result : Result P (Refusal C)) → ((bytes : List ℕ) → given (Some bytes) ≡ Ok value → rest_after bytes ≡ inputs) → Reads input.name input.limit given x y (Ok value) →
      PreparesBy makes (λ held. next held value) inputs y z result → PreparesBy makes (λ held. answer_from (given (first_held held)) (next (later held))) (input ∷ inputs) x z result
  accepted_calls z value (Ok plan) same r p = record {
    given = r.bytes ∷ p.given;
    taken = r.taken ++ p.taken;
    since = since_then r.taken p.taken x y z r.since p.since;
    ends = (
      then_of (takes r.bytes) (TakesInOrder (rest_after r.bytes) p.given) r.taken p.taken r.ends.0 (subst (λ (l : List NamedInput). TakesInOrder l p.given p.taken) (sym (same r.bytes r.ends.1)) p.ends.0),
      ap (λ g. answer_from g (next (held_of p.given))) r.ends.1 ∙ p.ends.1,
    );
  }
  accepted_calls z value (Err why) same r p = record {
    given = r.bytes ∷ p.given;
    taken = r.taken ++ p.taken;
    since = since_then r.taken p.taken x y z r.since p.since;
    ends = refused_second (takes r.bytes) (TakesInOrder (rest_after r.bytes) p.given) (next (held_of p.given) value ≡ refused why) (answer_from (given (Some r.bytes)) (next (held_of p.given)) ≡ refused why) why r.taken p.taken r.ends.0
        (λ holds. ap (λ g. answer_from g (next (held_of p.given))) r.ends.1 ∙ holds)
        (subst (λ (l : List NamedInput). EndsRefused (TakesInOrder l p.given) (next (held_of p.given) value ≡ refused why) why p.taken) (sym (same r.bytes r.ends.1)) p.ends);
  }

-- the last input was refused
pub reads_declined : {T P C : Type 0} {input : NamedInput} (makes : P → Delivery) (given : Option (List ℕ) → Result T (Refusal C)) (next : Held → T → Answer C) (x y : HostState) (why : Refusal C) →
    Reads input.name input.limit given x y (Err why) → PreparesBy makes (λ held. answer_from (given (first_held held)) (next (later held))) (input ∷ []) x y (Err why)
reads_declined {input = input} makes given next x y why r = declined_calls input [] makes given next x y why (λ bytes is. none_after (input.accepts (Some bytes))) r

-- an input was refused that others come after
pub reads_declined_before : {T P C : Type 0} {input : NamedInput} {inputs : List NamedInput} (makes : P → Delivery) (given : Option (List ℕ) → Result T (Refusal C)) (next : Held → T → Answer C) (x y : HostState) (why : Refusal C) →
    ((held : Option (List ℕ)) → input.accepts held ≡ is_ok (given held)) →
    Reads input.name input.limit given x y (Err why) → PreparesBy makes (λ held. answer_from (given (first_held held)) (next (later held))) (input ∷ inputs) x y (Err why)
reads_declined_before {T = T} {C = C} {input = input} {inputs = inputs} makes given next x y why accepts r =
    declined_calls input inputs makes given next x y why (λ bytes is. ap (λ (b : Bool). if b then inputs else []) (accepts (Some bytes) ∙ ap (λ (g : Result T (Refusal C)). is_ok g) is)) r

-- it was accepted, and others come after it
pub reads_then : {T P C : Type 0} {input : NamedInput} {inputs : List NamedInput} (makes : P → Delivery) (given : Option (List ℕ) → Result T (Refusal C)) (next : Held → T → Answer C) (x y z : HostState) (value : T) (result : Result P (Refusal C)) →
    ((held : Option (List ℕ)) → input.accepts held ≡ is_ok (given held)) →
    Reads input.name input.limit given x y (Ok value) → PreparesBy makes (λ held. next held value) inputs y z result → PreparesBy makes (λ held. answer_from (given (first_held held)) (next (later held))) (input ∷ inputs) x z result
reads_then {T = T} {C = C} {input = input} {inputs = inputs} makes given next x y z value result accepts r p =
    accepted_calls input inputs makes given next x y z value result (λ bytes is. ap (λ (b : Bool). if b then inputs else []) (accepts (Some bytes) ∙ ap (λ (g : Result T (Refusal C)). is_ok g) is)) r p

-- an input was read, and a plan was made by what it gives
pub reads_plan : {T P C : Type 0} {input : NamedInput} (makes : P → Delivery) (given : Option (List ℕ) → Result T (Refusal C)) (next : T → Answer C) (x y : HostState) (value : T) (result : Result P (Refusal C)) →
    Reads input.name input.limit given x y (Ok value) → Plans makes (next value) result → PreparesBy makes (λ held. answer_from (given (first_held held)) next) (input ∷ []) x y result
reads_plan {input = input} makes given next x y value result r p =
    accepted_calls input [] makes given (λ (held : Held). next) x y y value result (λ bytes is. none_after (input.accepts (Some bytes))) r (prepares_unread makes (next value) y result p)

-- an input was refused, and what comes of it with it
pub reads_refused : {T U C : Type 0} {name : List ℕ} {limit : ℕ} (given : Option (List ℕ) → Result T (Refusal C)) (value : T → Result U (Refusal C)) (x y : HostState) (why : Refusal C) →
    Reads name limit given x y (Err why) → Reads name limit (λ held. value_from (given held) value) x y (Err why)
reads_refused {name = name} {limit = limit} given value x y why r = record {
  bytes = r.bytes;
  taken = r.taken;
  since = r.since;
  ends = refused_as (Takes name limit r.bytes) (Takes name limit r.bytes) (given (Some r.bytes) ≡ Err why) (value_from (given (Some r.bytes)) value ≡ Err why) why r.taken (λ l takes. takes) (λ is. ap (λ g. value_from g value) is) r.ends;
}

-- an input was read, and accepted or refused by what it gives
pub reads_accepts : {T U C : Type 0} {name : List ℕ} {limit : ℕ} (given : Option (List ℕ) → Result T (Refusal C)) (value : T → Result U (Refusal C)) (x y : HostState) (bytes : T) (result : Result U (Refusal C)) →
    Reads name limit given x y (Ok bytes) → Accepts (value bytes) result → Reads name limit (λ held. value_from (given held) value) x y result
reads_accepts given value x y bytes (Ok accepted) r a = record { bytes = r.bytes; taken = r.taken; since = r.since; ends = (r.ends.0, ap (λ g. value_from g value) r.ends.1 ∙ a.ok) }
reads_accepts {name = name} {limit = limit} given value x y bytes (Err why) r a = record {
  bytes = r.bytes;
  taken = r.taken;
  since = r.since;
  ends = refused_whole (Takes name limit r.bytes) (value_from (given (Some r.bytes)) value ≡ Err why) why r.taken r.ends.0 a.err.no_usage a.err.no_read a.err.no_write (by_bytes a.err.known);
}
  where
    by_bytes : (value bytes ≡ Err why) ⊎ (why ≡ OutOfMemory) → (value_from (given (Some r.bytes)) value ≡ Err why) ⊎ (why ≡ OutOfMemory)
    by_bytes (inl is) = inl (ap (λ g. value_from g value) r.ends.1 ∙ is)
    by_bytes (inr memory) = inr memory

abbrev by_test : {C : Type 0} → (is_longer : Bool) → (too_long : C) → (bytes : List ℕ) → Result (List ℕ) (Refusal C)
by_test is_longer too_long bytes = if is_longer then Err (Input too_long) else Ok bytes

-- an input that has more bytes than it may have
pub too_long_bytes : {C : Type 0} (limit : ℕ) (too_long : C) (bytes : List ℕ) → limit < length bytes → bytes_in limit too_long (Some bytes) ≡ Err (Input too_long)
too_long_bytes limit too_long bytes long = ap (λ (b : Bool). by_test b too_long bytes) (lt-ltb limit (length bytes) long)

-- an input that has no more bytes than it may have
pub short_bytes : {C : Type 0} (limit : ℕ) (too_long : C) (bytes : List ℕ) → length bytes ≤ limit → bytes_in limit too_long (Some bytes) ≡ Ok bytes
short_bytes limit too_long bytes short = ap (λ (b : Bool). by_test b too_long bytes) (le-ltb limit (length bytes) short)

-- a reader gave a value
pub accepts_value : {T E C : Type 0} (refusal : E → Refusal C) (given : Result T E) (value : T) → given ≡ Ok value → Accepts (refused_by refusal given) (Ok value)
accepts_value refusal given value is = record { ok = ap (λ g. refused_by refusal g) is; err = tt }

-- a reader's error, which is what was given, or that of want of memory
pub declines_error : {T E C : Type 0} (refusal : E → Refusal C) (given : Result T E) (error none : E) (why : Refusal C) → (given ≡ Err error) ⊎ (error ≡ none) → refusal error ≡ why → refusal none ≡ OutOfMemory →
    (why ≡ Usage → ⊥) → (why ≡ ReadFault → ⊥) → (why ≡ WriteFault → ⊥) → Declines (refused_by refusal given) why
declines_error {T = T} {E = E} {C = C} refusal given error none why cause is memory no_usage no_read no_write = record {
  known = known_of cause;
  no_usage = no_usage;
  no_read = no_read;
  no_write = no_write;
}
  where
    known_of : (given ≡ Err error) ⊎ (error ≡ none) → (refused_by refusal given ≡ Err why) ⊎ (why ≡ OutOfMemory)
    known_of (inl same) = inl (ap (λ g. refused_by refusal g) same ∙ ap (λ (r : Refusal C). Err r) is)
    known_of (inr same) = inr (sym is ∙ ap refusal same ∙ memory)

-- a reader's error that is a cause of its own for refusing the input
pub declines_input : {T E C : Type 0} (cause : E → C) (given : Result T E) (error : E) → given ≡ Err error → Declines (refused_by (λ e. Input (cause e)) given) (Input (cause error))
declines_input cause given error is = record {
  known = inl (ap (refused_by (λ e. Input (cause e))) is);
  no_usage = λ other. absurd cc;
  no_read = λ other. absurd cc;
  no_write = λ other. absurd cc;
}
