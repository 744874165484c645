-- Which outputs are ended after calls. Calls on inputs and writes keep all flags, a creation adds one, and an ending keeps how many there are.
use Rattle.std.proofs.Common.{◌≡◌, ◌≢◌, ℕ, zero, suc, ◌+◌, ◌-◌, ◌≤◌, Bool, true, false, List, [], ◌∷◌, ◌++◌, length, set, Option, Some, None, Result, Ok, Err, refl, sym, ap, ◌∙◌, subst, arith, append_assoc, length-append}
use Rattle.std.specs.Prelude.{slice_get}
use Rattle.std.specs.List.{AllByRecursion}
use Rattle.std.proofs.lemmas.List.{length-set}
use Rattle.snd_host.specs.Calls.{Call, created, finished, finish_call}
use Rattle.snd_host.specs.History.{ended_of}
use Rattle.snd_host.specs.Host.{HostState, Output, IsOpen}
use Rattle.snd_host.specs.Follows.{pushed, failure_of, Makes, Since, Follows, AreWrites}
use Rattle.snd_host.specs.declared.host.Failed.{Failed}
use Rattle.snd_host.specs.declared.host.OutFile.{OutFile}
use Rattle.snd_host.proofs.CallsInOrder.{pushed_more}
use Rattle.command_runner.specs.Answer.{Answer}
use Rattle.command_runner.specs.Conduct.{Delivery, PreparesBy, EndsPrepared}
use Rattle.command_runner.specs.Delivery.{CanDeliver, CanDeliverAll}
use Rattle.command_runner.specs.NamedInputs.{NamedInput, Held, TakesInOrder}
use Rattle.command_runner.specs.OutputCalls.{Target, IsWriteTo, AreWoven, AreCreations, numbered, MakesAtOnce, MakesInTurn}
use Rattle.command_runner.specs.Stream.{pair, IsTrace, AreTargets, IsOpenAfter, AreOpen}
use Rattle.command_runner.specs.declared.refusals.Refusal.{Refusal}
use Rattle.command_runner.specs.declared.refusals.Refusal.TheVariants.{Usage, ReadFault, WriteFault, OutOfMemory, Input}
use Rattle.command_runner.specs.declared.streaming.Targets.{Targets}
use Rattle.snd_host.proofs.EachCall.{Each, each_written, each_as}
use Rattle.snd_host.proofs.Kept.{Keeps, kept, kept_cut, kept_begun}
use Rattle.command_runner.proofs.EachCall.{each_for_inputs}
use Rattle.command_runner.proofs.Woven.{write_to_is}

-- Calls on inputs and writes.

abbrev KeepsFlags : Call → Type 0
KeepsFlags call = Keeps ended_of call

inputs_keep : (inputs : List NamedInput) (given : List (List ℕ)) → Each KeepsFlags (TakesInOrder inputs given)
inputs_keep = each_for_inputs KeepsFlags (λ name file history. refl) (λ file room bytes history. refl)

failures_keep : (inputs : List NamedInput) (given : List (List ℕ)) → Each (λ call. KeepsFlags (failure_of call)) (TakesInOrder inputs given)
failures_keep = each_for_inputs (λ call. KeepsFlags (failure_of call)) (λ name file history. refl) (λ file room bytes history. refl)

-- what a command does before it carries out its plan
pub prepared_keeps : {P C : Type 0} (makes : P → Delivery) (answer : Held → Answer C) (inputs : List NamedInput) (a b : HostState) (prepared : Result P (Refusal C)) → PreparesBy makes answer inputs a b prepared → ended_of b.calls ≡ ended_of a.calls
prepared_keeps {P = P} {C = C} makes answer inputs a b prepared p = ap ended_of p.since.calls ∙ by prepared p.ends
  where
    by : (result : Result P (Refusal C)) → EndsPrepared makes answer inputs result p.given p.taken → ended_of (pushed p.taken a.calls) ≡ ended_of a.calls
    by (Ok plan) ends = kept ended_of p.taken a.calls (inputs_keep inputs p.given p.taken ends.0)
    by (Err Usage) ends = absurd ends
    by (Err ReadFault) ends = kept_cut ended_of (TakesInOrder inputs p.given) (inputs_keep inputs p.given) (failures_keep inputs p.given) p.taken a.calls ends
    by (Err WriteFault) ends = absurd ends
    by (Err OutOfMemory) ends = kept_begun ended_of (TakesInOrder inputs p.given) (inputs_keep inputs p.given) p.taken a.calls ends
    by (Err (Input cause)) ends = kept ended_of p.taken a.calls (inputs_keep inputs p.given p.taken ends.0)

-- so outputs can be created as they could be before
module _ {P C : Type 0} {inputs : List NamedInput} (makes : P → Delivery) (answer : Held → Answer C) (a b : HostState) (prepared : Result P (Refusal C)) (p : PreparesBy makes answer inputs a b prepared) where
  pub can_deliver_all_still : (count : ℕ) → CanDeliverAll count a → CanDeliverAll count b
  can_deliver_all_still count can = let same = ap (length {A = Bool}) (prepared_keeps makes answer inputs a b prepared p) in omega (arith, same, can)

  pub can_deliver_still : CanDeliver a → CanDeliver b
  can_deliver_still can = can_deliver_all_still 1 can

writes_keep : (targets : List Target) (calls history : List Call) → AllByRecursion (IsWriteTo targets) calls → ended_of (pushed calls history) ≡ ended_of history
writes_keep targets calls history each = kept ended_of calls history (each_as (IsWriteTo targets) KeepsFlags (write_to_is targets KeepsFlags (λ file bytes among some history. refl)) calls each)

pub written_keeps : {T : Type 0} (file : ℕ) (bytes : List ℕ) (a b : HostState) (x : T) → Follows {T = T} {E = Failed} (AreWrites file bytes) a b (Ok x) → ended_of b.calls ≡ ended_of a.calls
written_keeps file bytes a b x f = ap ended_of f.since.calls ∙ kept ended_of f.calls a.calls (each_written file bytes KeepsFlags (λ piece some history. refl) f.calls f.does)

-- also where one of the writes failed
pub writes_keep_flags : {T : Type 0} (file : ℕ) (bytes : List ℕ) (a b : HostState) (result : Result T Failed) → Follows (AreWrites file bytes) a b result → ended_of b.calls ≡ ended_of a.calls
writes_keep_flags file bytes a b (Ok x) f = written_keeps file bytes a b x f
writes_keep_flags file bytes a b (Err e) f =
    ap ended_of f.since.calls
    ∙ kept_cut ended_of (AreWrites file bytes) (each_written file bytes KeepsFlags (λ piece some history. refl)) (each_written file bytes (λ call. KeepsFlags (failure_of call)) (λ piece some history. refl)) f.calls a.calls f.does

pub since_writes : (targets : List Target) (calls : List Call) (a b : HostState) → Since calls a b → AreWoven targets calls → ended_of b.calls ≡ ended_of a.calls
since_writes targets calls a b since woven = ap ended_of since.calls ∙ writes_keep targets calls a.calls woven.each

pub woven_keeps : {T : Type 0} (targets : List Target) (a b : HostState) (x : T) → Follows {T = T} {E = Failed} (AreWoven targets) a b (Ok x) → ended_of b.calls ≡ ended_of a.calls
woven_keeps targets a b x f = since_writes targets f.calls a b f.since f.does

-- Creations.

pub one_more : (name : List ℕ) (file : ℕ) (a b : HostState) → Makes (created name file) a b → length (ended_of b.calls) ≡ length (ended_of a.calls) + 1
one_more name file a b made = ap (λ (l : List Call). length (ended_of l)) made.calls ∙ length-append (ended_of a.calls) (false ∷ [])

get_after : (flags more : List Bool) (i : ℕ) → slice_get (flags ++ more) (length flags + i) ≡ slice_get more i
get_after [] more i = let same : zero + i ≡ i = omega arith in ap (λ (k : ℕ). slice_get more k) same
get_after (f ∷ flags) more i =
    let same : length (f ∷ flags) + i ≡ suc (length flags + i) = omega arith in
    ap (λ (k : ℕ). slice_get (f ∷ (flags ++ more)) k) same ∙ get_after flags more i

-- the flag of the output of this place among those added, by its number
flag_at : (flags more : List Bool) (n i : ℕ) → n ≡ length flags + 2 + i → slice_get (flags ++ more) (n - 2) ≡ slice_get more i
flag_at flags more n i is = let place : n - 2 ≡ length flags + i = omega arith in ap (λ (m : ℕ). slice_get (flags ++ more) m) place ∙ get_after flags more i

-- the outputs of a stream are open once they are created
pub created_open : {T : Type 0} (wave : List ℕ) (trace : Option (List ℕ)) (targets : Targets) (a b : HostState) (x : T) → AreTargets trace (length (ended_of a.calls) + 2) targets →
    Follows {T = T} {E = Failed} (AreCreations (length (ended_of a.calls) + 2) (pair wave trace [] [])) a b (Ok x) → AreOpen (ended_of b.calls) targets
created_open wave None targets a b x are f =
    let flags : ended_of b.calls ≡ ended_of a.calls ++ false ∷ [] = ap ended_of f.since.calls ∙ ap (λ (l : List Call). ended_of (pushed l a.calls)) f.does in
    let is = are.wave in
    record {
      low = omega arith;
      wave_open = subst (λ (l : List Bool). slice_get l (targets.wave.0 - 2) ≡ Some false) (sym flags) (flag_at (ended_of a.calls) (false ∷ []) targets.wave.0 0 (omega arith));
      trace_open = after targets.trace are.trace_number;
    }
  where
    after : (o : Option OutFile) → IsTrace None o (length (ended_of a.calls) + 2) → IsOpenAfter (ended_of b.calls) targets.wave.0 o
    after None is = tt
    after (Some file) is = absurd is
created_open wave (Some trace) targets a b x are f =
    let is = are.wave in
    record {
      low = omega arith;
      wave_open = subst (λ (l : List Bool). slice_get l (targets.wave.0 - 2) ≡ Some false) (sym flags) (at targets.wave.0 0 (omega arith) refl);
      trace_open = after targets.trace are.trace_number;
    }
  where
    more : List Bool
    more = false ∷ false ∷ []

    flags : ended_of b.calls ≡ (ended_of a.calls ++ false ∷ []) ++ false ∷ []
    flags = ap ended_of f.since.calls ∙ ap (λ (l : List Call). ended_of (pushed l a.calls)) f.does

    at : (n i : ℕ) → n ≡ length (ended_of a.calls) + 2 + i → slice_get more i ≡ Some false → slice_get ((ended_of a.calls ++ false ∷ []) ++ false ∷ []) (n - 2) ≡ Some false
    at n i is here = subst (λ (l : List Bool). slice_get l (n - 2) ≡ Some false) (sym (append_assoc (ended_of a.calls) (false ∷ []) (false ∷ []))) (flag_at (ended_of a.calls) more n i is ∙ here)

    after : (o : Option OutFile) → IsTrace (Some trace) o (length (ended_of a.calls) + 2) → IsOpenAfter (ended_of b.calls) targets.wave.0 o
    after None is = absurd is
    after (Some file) next =
        let first = are.wave in (
          omega arith,
          subst (λ (l : List Bool). slice_get l (file.0 - 2) ≡ Some false) (sym flags) (at file.0 1 (omega arith) refl),
        )

created_writable : (ended : List Bool) (n : ℕ) → slice_get ended (n - 2) ≡ Some false → IsOpen ended n
created_writable ended zero is = tt
created_writable ended (suc zero) is = tt
created_writable ended (suc (suc place)) is = let at : suc (suc place) - 2 ≡ place = omega arith in subst (λ (k : ℕ). slice_get ended k ≡ Some false) at is

-- the trace can be written once the sound file was
pub trace_writable : (targets : Targets) (file : OutFile) (was ended : List Bool) → AreOpen was targets → targets.trace ≡ Some file → ended ≡ was → IsOpen ended file.0
trace_writable targets file was ended are is same =
    let after = subst (IsOpenAfter was targets.wave.0) is are.trace_open in
    subst (λ (l : List Bool). IsOpen l file.0) (sym same) (created_writable was file.0 after.1)

-- Endings.

get_set_other : (flags : List Bool) (i j : ℕ) (b : Bool) → i ≢ j → slice_get (set flags i b) j ≡ slice_get flags j
get_set_other [] i j b other = refl
get_set_other (f ∷ flags) zero zero b other = absurd (other refl)
get_set_other (f ∷ flags) zero (suc j) b other = refl
get_set_other (f ∷ flags) (suc i) zero b other = refl
get_set_other (f ∷ flags) (suc i) (suc j) b other = get_set_other flags i j b (λ same. other (ap suc same))

-- an output is open yet where another one was ended
pub open_yet : (n m : ℕ) (a b : HostState) → 2 ≤ n → 2 ≤ m → n ≢ m → Makes (finished n) a b → slice_get (ended_of a.calls) (m - 2) ≡ Some false → slice_get (ended_of b.calls) (m - 2) ≡ Some false
open_yet n m a b low next other made is =
    ap (λ (l : List Call). slice_get (ended_of l) (m - 2)) made.calls ∙ get_set_other (ended_of a.calls) (n - 2) (m - 2) true (λ same. other (omega arith)) ∙ is

-- an ending keeps how many outputs there are, whether it failed or not
pub finish_counts : {T E : Type 0} (n : ℕ) (a b : HostState) (result : Result T E) → Makes (finish_call n result) a b → length (ended_of b.calls) ≡ length (ended_of a.calls)
finish_counts n a b (Ok x) made = ap (λ (l : List Call). length (ended_of l)) made.calls ∙ length-set (ended_of a.calls) (n - 2) true
finish_counts n a b (Err e) made = ap (λ (l : List Call). length (ended_of l)) made.calls

-- Outputs that were made one after another are so many more.

pub one_flag : (n : ℕ) (output : Output) (calls history : List Call) → MakesAtOnce n (output ∷ []) calls → ended_of (pushed calls history) ≡ set (ended_of history ++ false ∷ []) (n - 2) true
one_flag n output calls history t =
    let rest = t.does_second in
    let mid = pushed t.front history in
    let last = pushed rest.front mid in
    let split : pushed calls history ≡ pushed rest.back last = ap (λ (l : List Call). pushed l history) t.split ∙ pushed_more t.front t.back history ∙ ap (λ (l : List Call). pushed l mid) rest.split ∙ pushed_more rest.front rest.back mid in
    let ended : ended_of (pushed rest.back last) ≡ set (ended_of last) (n - 2) true = ap (λ (l : List Call). ended_of (pushed l last)) rest.does_second in
    let wrote : ended_of last ≡ ended_of mid = writes_keep (numbered n (output ∷ [])) rest.front mid rest.does_first.each in
    let made : ended_of mid ≡ ended_of history ++ false ∷ [] = ap (λ (l : List Call). ended_of (pushed l history)) t.does_first in
    ap ended_of split ∙ ended ∙ ap (λ (l : List Bool). set l (n - 2) true) (wrote ∙ made)

one_counts : (n : ℕ) (output : Output) (calls history : List Call) → MakesAtOnce n (output ∷ []) calls → length (ended_of (pushed calls history)) ≡ length (ended_of history) + 1
one_counts n output calls history t =
    ap (length {A = Bool}) (one_flag n output calls history t) ∙ length-set (ended_of history ++ false ∷ []) (n - 2) true ∙ length-append (ended_of history) (false ∷ [])

in_turn_counts : (n : ℕ) (outputs : List Output) (calls history : List Call) → MakesInTurn n outputs calls → length (ended_of (pushed calls history)) ≡ length (ended_of history) + length outputs
in_turn_counts n [] calls history none = ap (λ (l : List Call). length (ended_of (pushed l history))) none ∙ omega arith
in_turn_counts n (o ∷ outputs) calls history t =
    let first = one_counts n o t.front history t.does_first in
    let rest = in_turn_counts (n + 1) outputs t.back (pushed t.front history) t.does_second in
    ap (λ (l : List Call). length (ended_of (pushed l history))) t.split ∙ ap (λ (l : List Call). length (ended_of l)) (pushed_more t.front t.back history) ∙ omega (arith, first, rest)

-- the number of the output after them
pub next_after : (n : ℕ) (outputs : List Output) (calls : List Call) (a b : HostState) → Since calls a b → MakesInTurn n outputs calls → length (ended_of b.calls) + 2 ≡ length (ended_of a.calls) + 2 + length outputs
next_after n outputs calls a b since made =
    let many : length (ended_of b.calls) ≡ length (ended_of a.calls) + length outputs = ap (λ (l : List Call). length (ended_of l)) since.calls ∙ in_turn_counts n outputs calls a.calls made in
    omega (arith, many)
