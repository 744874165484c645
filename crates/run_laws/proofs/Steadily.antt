-- On a steady host only an input that isn't there fails. Calls for an input are its opening and then reads, and of those a steady host fails the
-- opening alone, where there is no such input; then the answer is that it couldn't be read. What was read before gave what the names hold.
use Rattle.std.proofs.Common.{◌≡◌, ◌⊎◌, inl, inr, ℕ, ◌≤◌, ◌<◌, Bool, true, false, List, [], ◌∷◌, ◌++◌, Some, None, length, refl, sym, ap, ◌∙◌, subst, if◌then◌else◌}
use Rattle.std.specs.Prelude.{Option}
use Rattle.std.specs.List.{AllByRecursion}
use Rattle.std.proofs.lemmas.List.{append_assoc}
use Rattle.snd_host.specs.Calls.{Call, opened, not_opened, read, not_read, created, not_created, wrote, not_written, finished, not_finished}
use Rattle.snd_host.specs.Host.{Files}
use Rattle.snd_host.specs.Follows.{pushed, failure_of, IsCut}
use Rattle.snd_host.specs.Takes.{Takes, GivesSome}
use Rattle.snd_host.proofs.Taking.{either}
use Rattle.command_runner.specs.InOrder.{Then}
use Rattle.command_runner.specs.Answer.{Answer, refused}
use Rattle.command_runner.specs.NamedInputs.{NamedInput, Held, held_by, TakesInOrder}
use Rattle.command_runner.specs.declared.refusals.Refusal.TheVariants.{ReadFault}
use Rattle.snd_host.proofs.EachCall.{each_as, each_then, one_of}
use Rattle.run_laws.specs.GoesBy.{GoesBy, GoesByFirst}
use Rattle.snd_host.specs.History.{AreTrueOf, AreSteadyCalls, IsSteadyCall, rooms_after, rooms_over}
use Rattle.command_runner.proofs.Fronts.{IsInEither, in_either}
use Rattle.run_laws.proofs.Cuts.{no_cut}
use Rattle.snd_host.proofs.Held.{AreTrueOf-append, gave_front}
use Rattle.run_laws.proofs.Given.{answer-front}

pub AreSteadyCalls-append : (holds : Option Files) (rooms : List ℕ) (history xs ys : List Call) → AreSteadyCalls holds rooms history (xs ++ ys) →
    AreSteadyCalls holds rooms history xs × AreSteadyCalls holds (rooms_over xs rooms) (pushed xs history) ys
AreSteadyCalls-append holds rooms history [] ys all = (tt, all)
AreSteadyCalls-append holds rooms history (x ∷ xs) ys all = let more = AreSteadyCalls-append holds (rooms_after x rooms) (x ∷ history) xs ys all.1 in ((all.0, more.0), more.1)

abbrev IsRead : Call → Type 0
IsRead (read file room bytes) = Unit {0}
IsRead call = ⊥

read_is : (file : ℕ) (c : Call) → GivesSome file c → IsRead c
read_is file (read n room bytes) h = tt
read_is file (opened name n) h = absurd h
read_is file (not_opened name) h = absurd h
read_is file (not_read n room) h = absurd h
read_is file (created name n) h = absurd h
read_is file (not_created name) h = absurd h
read_is file (wrote n bytes) h = absurd h
read_is file (not_written n piece) h = absurd h
read_is file (finished n) h = absurd h
read_is file (not_finished n) h = absurd h

-- a steady host fails no read
no_read_fails : (holds : Option Files) (rooms : List ℕ) (history : List Call) (c : Call) → IsRead c → IsSteadyCall holds rooms history (failure_of c) → ⊥
no_read_fails holds rooms history (read n room bytes) h steady = absurd steady
no_read_fails holds rooms history (opened name n) h steady = absurd h
no_read_fails holds rooms history (not_opened name) h steady = absurd h
no_read_fails holds rooms history (not_read n room) h steady = absurd h
no_read_fails holds rooms history (created name n) h steady = absurd h
no_read_fails holds rooms history (not_created name) h steady = absurd h
no_read_fails holds rooms history (wrote n bytes) h steady = absurd h
no_read_fails holds rooms history (not_written n piece) h steady = absurd h
no_read_fails holds rooms history (finished n) h steady = absurd h
no_read_fails holds rooms history (not_finished n) h steady = absurd h

-- after its opening an input is read
after_opening : (name : List ℕ) (limit : ℕ) (bytes : List ℕ) (calls : List Call) (takes : Takes name limit bytes calls) → AllByRecursion IsRead (takes.reads ++ takes.end)
after_opening name limit bytes calls takes = each_then IsRead takes.reads takes.end (each_as (GivesSome takes.file) IsRead (read_is takes.file) takes.reads takes.each) (last (either (length bytes) limit))
  where
    last : (length bytes ≤ limit) ⊎ (limit < length bytes) → AllByRecursion IsRead takes.end
    last (inl short) = subst (AllByRecursion IsRead) (sym (takes.ends.whole short).2) (tt, tt)
    last (inr long) = subst (AllByRecursion IsRead) (sym (takes.ends.long long)) tt

-- where a call for an input fails, the input isn't there
not_there : (files : Files) (name : List ℕ) (limit : ℕ) (bytes : List ℕ) (rooms : List ℕ) (history done : List Call) (call : Call) (more calls : List Call) → (takes : Takes name limit bytes calls) →
    calls ≡ done ++ call ∷ more → AreSteadyCalls (Some files) rooms history (done ++ failure_of call ∷ []) → files name ≡ None
not_there files name limit bytes rooms history [] call more calls takes is steady =
    let same : call ≡ opened name takes.file = let e = takes.split in cc in
    subst (λ (c : Call). IsSteadyCall (Some files) rooms history (failure_of c)) same steady.0 files refl
not_there files name limit bytes rooms history (d ∷ done) call more calls takes is steady =
    let others : takes.reads ++ takes.end ≡ done ++ call ∷ more = let e = takes.split in cc in
    let reads : IsRead call = one_of IsRead done more call (subst (AllByRecursion IsRead) others (after_opening name limit bytes calls takes)) in
    absurd (no_read_fails (Some files) (rooms_over (d ∷ done) rooms) (pushed (d ∷ done) history) call reads (AreSteadyCalls-append (Some files) rooms history (d ∷ done) (failure_of call ∷ []) steady).1.0)

-- What is known of calls that were cut.
pub record IsSteadyCut (files : Files) (rooms : List ℕ) (history : List Call) (inputs : List NamedInput) (given : List (List ℕ)) (taken : List Call) : Type 0 where
  pub cut : IsCut (TakesInOrder inputs given) taken
  pub true_of : AreTrueOf files history taken
  pub steady : AreSteadyCalls (Some files) rooms history taken

abbrev Refuses : {C : Type 0} → (Held → Answer C) → Held → Type 0
Refuses answer held = answer held ≡ refused ReadFault

-- it was cut after the first input, of which the next is read only where that is accepted
cut_later : {C : Type 0} (files : Files) (rooms : List ℕ) (history : List Call) (input : NamedInput) (inputs : List NamedInput) (answer : Held → Answer C) (bytes : List ℕ) (given : List (List ℕ)) (taken : List Call) →
    (input.accepts (Some bytes) ≡ true → IsSteadyCut files rooms history inputs given taken → Refuses answer (Some bytes ∷ held_by files inputs)) →
    (b : Bool) → input.accepts (Some bytes) ≡ b → IsSteadyCut files rooms history (if b then inputs else []) given taken → Refuses answer (Some bytes ∷ held_by files inputs)
cut_later files rooms history input inputs answer bytes given taken more true is cut = more is cut
cut_later files rooms history input inputs answer bytes given taken more false is cut = absurd (no_cut given taken cut.cut)

module _ {C : Type 0} (files : Files) (rooms : List ℕ) (history : List Call) (input : NamedInput) (inputs : List NamedInput) (answer : Held → Answer C) (bytes : List ℕ) (given : List (List ℕ)) (taken : List Call)
    (goes : GoesByFirst input answer) (steadily : IsSteadyCut files rooms history (input ∷ inputs) (bytes ∷ given) taken) where
  by_place : (whole : Then (Takes input.name input.limit bytes) (TakesInOrder (if input.accepts (Some bytes) then inputs else []) given) (steadily.cut.done ++ steadily.cut.call ∷ steadily.cut.rest)) →
      (input.accepts (Some bytes) ≡ true → (calls : List Call) → IsSteadyCut files (rooms_over whole.front rooms) (pushed whole.front history) inputs given calls → Refuses answer (Some bytes ∷ held_by files inputs)) →
      IsInEither steadily.cut.done steadily.cut.call steadily.cut.rest whole.front whole.back → Refuses answer (held_by files (input ∷ inputs))
  by_place whole more (inl place) =
      let absent = not_there files input.name input.limit bytes rooms history steadily.cut.done steadily.cut.call place.0 whole.front whole.does_first place.1
      (subst (AreSteadyCalls (Some files) rooms history) steadily.cut.cut steadily.steady) in
      ap (λ held. answer (held ∷ held_by files inputs)) absent ∙ goes.absent (held_by files inputs)
  by_place whole more (inr place) =
      let last = failure_of steadily.cut.call ∷ [] in
      let split : taken ≡ whole.front ++ (place.0 ++ last) = steadily.cut.cut ∙ ap (λ (l : List Call). l ++ last) place.1 ∙ append_assoc whole.front place.0 last in
      let true_parts = AreTrueOf-append files history whole.front (place.0 ++ last) (subst (AreTrueOf files history) split steadily.true_of) in
      let steady_parts = AreSteadyCalls-append (Some files) rooms history whole.front (place.0 ++ last) (subst (AreSteadyCalls (Some files) rooms history) split steadily.steady) in
      let front = gave_front files input.name input.limit bytes whole.front history whole.does_first true_parts.0 in
      answer-front files input answer bytes (held_by files inputs) goes front
      ∙ cut_later files (rooms_over whole.front rooms) (pushed whole.front history) input inputs answer bytes given (place.0 ++ last)
      (λ is. more is (place.0 ++ last)) (input.accepts (Some bytes)) refl
      (record {
        cut = record { done = place.0; call = steadily.cut.call; rest = steadily.cut.rest; cut = refl; whole = subst (TakesInOrder (if input.accepts (Some bytes) then inputs else []) given) place.2 whole.does_second };
        true_of = true_parts.1;
        steady = steady_parts.1;
      })

only_absent_fails : {C : Type 0} (files : Files) (inputs : List NamedInput) (answer : Held → Answer C) (given : List (List ℕ)) (rooms : List ℕ) (history taken : List Call) →
    GoesBy inputs answer → IsSteadyCut files rooms history inputs given taken → Refuses answer (held_by files inputs)
only_absent_fails files [] answer given rooms history taken goes cut = absurd (no_cut given taken cut.cut)
only_absent_fails files (input ∷ inputs) answer [] rooms history taken goes cut = absurd cut.cut.whole
only_absent_fails files (input ∷ inputs) answer (bytes ∷ given) rooms history taken goes cut =
    let whole = cut.cut.whole in
    by_place files rooms history input inputs answer bytes given taken goes.0 cut whole
    (λ is calls. only_absent_fails files inputs (λ rest. answer (Some bytes ∷ rest)) given (rooms_over whole.front rooms) (pushed whole.front history) calls (goes.1 bytes is))
    (in_either cut.cut.done cut.cut.call cut.cut.rest whole.front whole.back whole.split)

pub answer-cut : {C : Type 0} (files : Files) (inputs : List NamedInput) (answer : Held → Answer C) (given : List (List ℕ)) (rooms : List ℕ) (taken history : List Call) →
    GoesBy inputs answer → IsCut (TakesInOrder inputs given) taken → AreTrueOf files history taken → AreSteadyCalls (Some files) rooms history taken → answer (held_by files inputs) ≡ refused ReadFault
answer-cut files inputs answer given rooms taken history goes cut true_of steady =
    only_absent_fails files inputs answer given rooms history taken goes (record { cut = cut; true_of = true_of; steady = steady })
