-- On a steady host with room no call of a delivery fails, and none that writes a line of complaint: the writes to an output join to its bytes, for
-- which there is room, and what is written to one leaves the rooms of the others.
use Rattle.std.proofs.Common.{◌≡◌, ◌≢◌, ℕ, ◌+◌, ◌≤◌, ◌<◌, Bool, true, false, List, [], ◌∷◌, ◌++◌, length, None, refl, sym, ap, ◌∙◌, subst, arith}
use Rattle.std.specs.Prelude.{◌==◌, ◌||◌, slice_index, Option}
use Rattle.std.specs.List.{AllByRecursion, list_any}
use Rattle.snd_host.specs.Calls.{Call, opened, not_opened, read, not_read, created, not_created, wrote, not_written, finished, not_finished}
use Rattle.snd_host.specs.Host.{Files, Output}
use Rattle.snd_host.specs.Follows.{IsCut, IsWrite, AreWrites}
use Rattle.command_runner.specs.Delivery.{HaveRooms}
use Rattle.command_runner.specs.OutputCalls.{Target, numbered, IsWriteTo, bytes_to, AreWoven, creations, endings, MakesAtOnce, MakesInTurn, MakesAs, Order, at_once, in_turn, DeliversAs}
use Rattle.snd_host.proofs.EachCall.{write_is, each_as}
use Rattle.command_runner.proofs.Woven.{none_to, woven_first}
use Rattle.snd_host.specs.History.{ended_of, rooms_over, AreSteadyCalls}
use Rattle.run_laws.proofs.Rooms.{length-rooms_over, index-rooms_over_unwritten}
use Rattle.run_laws.proofs.Unwritten.{higher_number, bytes_to-unwritten, at_once_unwritten, makes_unwritten}
use Rattle.run_laws.proofs.Fitting.{number_over, AllFit, fit_not_cut, fit_then, number_over-append, IsAWrite, HaveRoom, writes_fit}

creations_fit : (n : ℕ) (rooms : List ℕ) (outputs : List Output) → HaveRooms outputs rooms n → AllFit n rooms (creations n outputs)
creations_fit n rooms [] have = tt
creations_fit n rooms (o ∷ outputs) have = ((have.0, have.2), creations_fit (n + 1) rooms outputs have.3)

number_over-creations : (n : ℕ) (outputs : List Output) → number_over (creations n outputs) n ≡ n + length outputs
number_over-creations n [] = omega arith
number_over-creations n (o ∷ outputs) = let e = number_over-creations (n + 1) outputs in omega (arith, e)

rooms_over-creations : (n : ℕ) (rooms : List ℕ) (outputs : List Output) → rooms_over (creations n outputs) rooms ≡ rooms
rooms_over-creations n rooms [] = refl
rooms_over-creations n rooms (o ∷ outputs) = rooms_over-creations (n + 1) rooms outputs

endings_fit : (n : ℕ) (rooms : List ℕ) (targets : List Target) → AllFit n rooms (endings targets)
endings_fit n rooms [] = tt
endings_fit n rooms (t ∷ targets) = (tt, endings_fit n rooms targets)

number_over-endings : (n : ℕ) (targets : List Target) → number_over (endings targets) n ≡ n
number_over-endings n [] = refl
number_over-endings n (t ∷ targets) = number_over-endings n targets

a_write : (targets : List Target) (c : Call) → IsWriteTo targets c → IsAWrite c
a_write targets (wrote n bytes) h = tt
a_write targets (opened name n) h = absurd h
a_write targets (not_opened name) h = absurd h
a_write targets (read n room bytes) h = absurd h
a_write targets (not_read n room) h = absurd h
a_write targets (created name n) h = absurd h
a_write targets (not_created name) h = absurd h
a_write targets (not_written n piece) h = absurd h
a_write targets (finished n) h = absurd h
a_write targets (not_finished n) h = absurd h

number_over-writes : (calls : List Call) (n : ℕ) → AllByRecursion IsAWrite calls → number_over calls n ≡ n
number_over-writes [] n each = refl
number_over-writes (wrote f bytes ∷ calls) n each = number_over-writes calls n each.1
number_over-writes (opened name f ∷ calls) n each = absurd each.0
number_over-writes (not_opened name ∷ calls) n each = absurd each.0
number_over-writes (read f room bytes ∷ calls) n each = absurd each.0
number_over-writes (not_read f room ∷ calls) n each = absurd each.0
number_over-writes (created name f ∷ calls) n each = absurd each.0
number_over-writes (not_created name ∷ calls) n each = absurd each.0
number_over-writes (not_written f piece ∷ calls) n each = absurd each.0
number_over-writes (finished f ∷ calls) n each = absurd each.0
number_over-writes (not_finished f ∷ calls) n each = absurd each.0

-- all that is written to an output fits into its room
target_fits : (calls : List Call) (rooms : List ℕ) (file n : ℕ) (bytes : List ℕ) (others b : Bool) → (n == file) ≡ b → bytes_to n calls ≡ bytes → length bytes ≤ slice_index rooms n →
    (others ≡ true → length (bytes_to file calls) ≤ slice_index rooms file) → (b || others) ≡ true → length (bytes_to file calls) ≤ slice_index rooms file
target_fits calls rooms file n bytes others true is joined fits more among =
    let number : n ≡ file = grind arith in
    let here : length (bytes_to n calls) ≤ slice_index rooms n = subst (λ (l : List ℕ). length l ≤ slice_index rooms n) (sym joined) fits in
    subst (λ (k : ℕ). length (bytes_to k calls) ≤ slice_index rooms k) number here
target_fits calls rooms file n bytes others false is joined fits more among = more among

targets_fit : (calls : List Call) (rooms : List ℕ) (file n : ℕ) (outputs : List Output) → HaveRooms outputs rooms n → AllByRecursion (λ target. bytes_to target.0 calls ≡ target.1) (numbered n outputs) →
    list_any (λ target. target.0 == file) (numbered n outputs) ≡ true → length (bytes_to file calls) ≤ slice_index rooms file
targets_fit calls rooms file n [] have joined among = absurd (cc)
targets_fit calls rooms file n (o ∷ outputs) have joined among =
    target_fits calls rooms file n o.bytes (list_any (λ target. target.0 == file) (numbered (n + 1) outputs)) (n == file) refl joined.0 have.1
    (targets_fit calls rooms file (n + 1) outputs have.3 joined.1) among

woven_have_room : (n : ℕ) (rooms : List ℕ) (outputs : List Output) (calls : List Call) → HaveRooms outputs rooms n → AreWoven (numbered n outputs) calls → HaveRoom calls rooms
woven_have_room n rooms outputs calls have woven file = by_target (list_any (λ target. target.0 == file) (numbered n outputs)) refl
  where
    by_target : (b : Bool) → list_any (λ target. target.0 == file) (numbered n outputs) ≡ b → length (bytes_to file calls) ≤ slice_index rooms file
    by_target true is = targets_fit calls rooms file n outputs have woven.joined is
    by_target false is = let e = ap (length {A = ℕ}) (bytes_to-unwritten file (numbered n outputs) calls is woven.each) in omega (arith, e)

writes_have_room : (n : ℕ) (bytes : List ℕ) (rooms : List ℕ) (calls : List Call) → length bytes ≤ slice_index rooms n → AreWrites n bytes calls → HaveRoom calls rooms
writes_have_room n bytes rooms calls fits writes file = by_number (n == file) refl
  where
    by_number : (b : Bool) → (n == file) ≡ b → length (bytes_to file calls) ≤ slice_index rooms file
    by_number true is =
        let number : n ≡ file = grind arith in
        let here : length (bytes_to n calls) ≤ slice_index rooms n = subst (λ (l : List ℕ). length l ≤ slice_index rooms n) (sym (woven_first n None bytes tt calls writes).joined.0) fits in
        subst (λ (k : ℕ). length (bytes_to k calls) ≤ slice_index rooms k) number here
    by_number false is =
        let other : n ≢ file = λ (same : n ≡ file). absurd (grind arith) in
        let e = ap (length {A = ℕ}) (none_to n file other calls writes.each) in omega (arith, e)

one_output_fits : (m n : ℕ) (bytes : List ℕ) (rooms : List ℕ) (calls : List Call) → length bytes ≤ slice_index rooms n → AreWrites n bytes calls → AllFit m rooms calls
one_output_fits m n bytes rooms calls fits writes =
    writes_fit m rooms calls (each_as (IsWrite n) IsAWrite (write_is n IsAWrite (λ bytes some. tt)) calls writes.each) (writes_have_room n bytes rooms calls fits writes)

at_once_fit : (n : ℕ) (rooms : List ℕ) (outputs : List Output) (calls : List Call) → HaveRooms outputs rooms n → MakesAtOnce n outputs calls → AllFit n rooms calls
at_once_fit n rooms outputs calls have t =
    let rest = t.does_second in
    let m = number_over (creations n outputs) n in
    let writes = writes_fit m rooms rest.front (each_as (IsWriteTo (numbered n outputs)) IsAWrite (a_write (numbered n outputs)) rest.front rest.does_first.each) (woven_have_room n rooms outputs rest.front have rest.does_first) in
    let ends = endings_fit (number_over rest.front m) (rooms_over rest.front rooms) (numbered n outputs) in
    let later : AllFit m rooms (rest.front ++ endings (numbered n outputs)) = fit_then m rooms rest.front (endings (numbered n outputs)) writes ends in
    let all : AllFit n rooms (creations n outputs ++ (rest.front ++ endings (numbered n outputs))) =
    fit_then n rooms (creations n outputs) (rest.front ++ endings (numbered n outputs)) (creations_fit n rooms outputs have)
    (subst (λ (l : List ℕ). AllFit m l (rest.front ++ endings (numbered n outputs))) (sym (rooms_over-creations n rooms outputs)) later) in
    subst (AllFit n rooms) (sym (t.split ∙ ap (λ (l : List Call). l ++ t.back) t.does_first ∙ ap (λ (l : List Call). creations n outputs ++ l) (rest.split ∙ ap (λ (l : List Call). rest.front ++ l) rest.does_second))) all

number_over-at_once : (n : ℕ) (outputs : List Output) (calls : List Call) → MakesAtOnce n outputs calls → number_over calls n ≡ n + length outputs
number_over-at_once n outputs calls t =
    let rest = t.does_second in
    let m = number_over (creations n outputs) n in
    ap (λ (l : List Call). number_over l n) (t.split ∙ ap (λ (l : List Call). l ++ t.back) t.does_first) ∙ number_over-append (creations n outputs) t.back n
    ∙ ap (λ (l : List Call). number_over l m) (rest.split ∙ ap (λ (l : List Call). rest.front ++ l) rest.does_second) ∙ number_over-append rest.front (endings (numbered n outputs)) m
    ∙ number_over-endings (number_over rest.front m) (numbered n outputs)
    ∙ number_over-writes rest.front m (each_as (IsWriteTo (numbered n outputs)) IsAWrite (a_write (numbered n outputs)) rest.front rest.does_first.each)
    ∙ number_over-creations n outputs

HaveRooms-same : (n : ℕ) (rooms after : List ℕ) (outputs : List Output) → length after ≡ length rooms → ((file : ℕ) → n ≤ file → slice_index after file ≡ slice_index rooms file) → HaveRooms outputs rooms n → HaveRooms outputs after n
HaveRooms-same n rooms after [] even same have = tt
HaveRooms-same n rooms after (o ∷ outputs) even same have =
    (omega (arith, have.0, even), omega (arith, have.1, same n (omega arith)), have.2, HaveRooms-same (n + 1) rooms after outputs even (λ file later. same file (omega arith)) have.3)

in_turn_fit : (n : ℕ) (rooms : List ℕ) (outputs : List Output) (calls : List Call) → HaveRooms outputs rooms n → MakesInTurn n outputs calls → AllFit n rooms calls
in_turn_fit n rooms [] calls have none = subst (AllFit n rooms) (sym none) tt
in_turn_fit n rooms (o ∷ outputs) calls have t =
    let after = rooms_over t.front rooms in
    let next : number_over t.front n ≡ n + 1 = number_over-at_once n (o ∷ []) t.front t.does_first in
    let kept : HaveRooms outputs after (n + 1) =
    HaveRooms-same (n + 1) rooms after outputs (length-rooms_over t.front rooms)
    (λ file later. index-rooms_over_unwritten t.front rooms file (at_once_unwritten file n (o ∷ []) t.front (higher_number file n (o ∷ []) later) t.does_first)) have.3 in
    subst (AllFit n rooms) (sym t.split)
    (fit_then n rooms t.front t.back (at_once_fit n rooms (o ∷ []) t.front (have.0, have.1, have.2, tt) t.does_first)
    (subst (λ (k : ℕ). AllFit k after t.back) (sym next) (in_turn_fit (n + 1) after outputs t.back kept t.does_second)))

makes_fit : (order : Order) (n : ℕ) (rooms : List ℕ) (outputs : List Output) (calls : List Call) → HaveRooms outputs rooms n → MakesAs order n outputs calls → AllFit n rooms calls
makes_fit at_once n rooms outputs calls have made = at_once_fit n rooms outputs calls have made
makes_fit in_turn n rooms outputs calls have made = in_turn_fit n rooms outputs calls have made

delivers_fit : (order : Order) (n : ℕ) (rooms : List ℕ) (outputs : List Output) (report : List ℕ) (calls : List Call) → 0 < n → HaveRooms outputs rooms n → length report ≤ slice_index rooms 0 →
    DeliversAs order n outputs report calls → AllFit n rooms calls
delivers_fit order n rooms outputs report calls some have fits d =
    let after = rooms_over d.front rooms in
    let same : slice_index after 0 ≡ slice_index rooms 0 = index-rooms_over_unwritten d.front rooms 0 (makes_unwritten order 0 n outputs d.front some d.does_first) in
    subst (AllFit n rooms) (sym d.split)
    (fit_then n rooms d.front d.back (makes_fit order n rooms outputs d.front have d.does_first)
    (one_output_fits (number_over d.front n) 0 report after d.back (omega (arith, fits, same)) d.does_second))

pub delivery_not_cut : (holds : Option Files) (order : Order) (n : ℕ) (rooms : List ℕ) (outputs : List Output) (report : List ℕ) (history made : List Call) → HaveRooms outputs rooms n → length report ≤ slice_index rooms 0 →
    n ≡ length (ended_of history) + 2 → IsCut (DeliversAs order n outputs report) made → AreSteadyCalls holds rooms history made → ⊥
delivery_not_cut holds order n rooms outputs report history made have fits is cut steady =
    fit_not_cut holds n rooms history cut.done cut.call cut.rest is (delivers_fit order n rooms outputs report _ (omega (arith, is)) have fits cut.whole) (subst (AreSteadyCalls holds rooms history) cut.cut steady)

pub line_not_cut : (holds : Option Files) (rooms : List ℕ) (line : List ℕ) (history note : List Call) → length line ≤ slice_index rooms 1 → IsCut (AreWrites 1 line) note → AreSteadyCalls holds rooms history note → ⊥
line_not_cut holds rooms line history note fits cut steady =
    fit_not_cut holds (length (ended_of history) + 2) rooms history cut.done cut.call cut.rest refl (one_output_fits _ 1 line rooms _ fits cut.whole) (subst (AreSteadyCalls holds rooms history) cut.cut steady)
