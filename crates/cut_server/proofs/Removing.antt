-- One checkpoint fewer.
use Rattle.std.proofs.Common.{◌≡◌, ◌≢◌, ℕ, zero, suc, ◌+◌, ◌<◌, ◌≤◌, Bool, true, false, not, ◌&&◌, nat_eq, List, [], ◌∷◌, length, map, get_or, refl, sym, ap, ◌∙◌, arith, inl, inr}
use Rattle.std.specs.Prelude.{slice_index}
use Rattle.std.specs.List.{count_by, remove}
use Rattle.std.proofs.lemmas.List.Sums.{sum_by-cons, sum_by-remove}
use Rattle.std.proofs.lemmas.Bool.{cases_eq, cases_lt, and_right}
use Rattle.std.proofs.lemmas.Bool.Decides.{nat_tests}
use Rattle.page_pool.specs.declared.slot.Slot.{Slot}
use Rattle.page_pool.specs.Pool.{slot_at}
use Rattle.cut_form.specs.Checkpoints.{Checkpoint, by_places, own_slots, slots_used, without_entry}
use Rattle.cut_server.specs.declared.table.LiveCheckpoint.{LiveCheckpoint}
use Rattle.cut_server.specs.Table.{pages_in, checkpoints_after, times_named, AreWhole, AreApart, LeavesForGood, StandTogether}
use Rattle.cut_server.specs.Placing.{has_one_owner}
use Rattle.page_pool.proofs.Links.{one_if}
use Rattle.cut_server.proofs.Naming.{times-cons, IsNamedAt, named_place, count_named, apart_places}
use Rattle.cut_server.proofs.Shared.{length-by_places}

-- The slots before a row of checkpoints, each named so often: those that the row names again are slots of the one before it.
pub record IsBefore {S : Type 0} (times : ℕ → ℕ) (before : List ℕ) (checkpoints : List (LiveCheckpoint S)) : Type 0 where
  pub again : (k : ℕ) → 0 < times k → 0 < times_named checkpoints k → IsNamedAt before k
  pub counted : (p : ℕ) → p < length before → 0 < times (slice_index before p)

pub before_none : {S : Type 0} (checkpoints : List (LiveCheckpoint S)) → IsBefore (λ k. 0) [] checkpoints
before_none checkpoints = record { again = λ k some again. absurd (omega (arith, some)); counted = λ p within. absurd (omega arith) }

before_next : {S : Type 0} {times : ℕ → ℕ} {before : List ℕ} {checkpoint : LiveCheckpoint S} {checkpoints : List (LiveCheckpoint S)} → IsBefore times before (checkpoint ∷ checkpoints) → LeavesForGood before (checkpoint ∷ checkpoints) → length before ≤ length checkpoint.pages
    → IsBefore (λ k. times k + count_by (nat_eq k) checkpoint.pages) checkpoint.pages checkpoints
before_next {times = times} {before} {checkpoint} {checkpoints} is runs long = record {
  again = λ k some named. elim (cases_lt 0 (count_by (nat_eq k) checkpoint.pages)) [
    | inl here ↦ named_place k checkpoint.pages here
    | inr none ↦
        let at = is.again k (omega (arith, some, none)) (omega (arith, named, times-cons checkpoint checkpoints k)) in
        elim (cases_eq (slice_index checkpoint.pages at.place) k) [
          | inl same ↦ record { place = at.place; within = omega (arith, at.within, long); here = same }
          | inr other ↦
              let gone : times_named (checkpoint ∷ checkpoints) (slice_index before at.place) ≡ 0 = runs at.place at.within (λ e. other (e ∙ at.here)) in
              absurd (omega (arith, gone, ap (λ slot. times_named (checkpoint ∷ checkpoints) slot) at.here, times-cons checkpoint checkpoints k, named))
        ]
  ];
  counted = λ p within. omega (arith, count_named (slice_index checkpoint.pages p) checkpoint.pages p within refl);
}

-- a slot that stands elsewhere in the one before isn't named before at all
shared_before : {S : Type 0} {times : ℕ → ℕ} {before : List ℕ} {checkpoint : LiveCheckpoint S} {checkpoints : List (LiveCheckpoint S)} → IsBefore times before (checkpoint ∷ checkpoints) → LeavesForGood before (checkpoint ∷ checkpoints) → AreApart checkpoint.pages → length before ≤ length checkpoint.pages
    → (p : ℕ) → p < length checkpoint.pages → (p < length before → slice_index checkpoint.pages p ≢ slice_index before p) → times (slice_index checkpoint.pages p) ≡ 0
shared_before {times = times} {before} {checkpoint} {checkpoints} is runs apart long p within other =
    let k = slice_index checkpoint.pages p in
    elim (cases_lt 0 (times k)) [
      | inl some ↦
          let here : 0 < times_named (checkpoint ∷ checkpoints) k = omega (arith, count_named k checkpoint.pages p within refl, times-cons checkpoint checkpoints k) in
          let at = is.again k some here in
          elim (cases_eq (slice_index checkpoint.pages at.place) (slice_index before at.place)) [
            | inl same ↦
                let place : at.place ≡ p = apart_places checkpoint.pages apart at.place p (omega (arith, at.within, long)) within (same ∙ at.here) in
                absurd (other (omega (arith, at.within, place)) (sym (ap (λ i. slice_index before i) (sym place) ∙ at.here)))
            | inr apart_there ↦
                let gone : times_named (checkpoint ∷ checkpoints) (slice_index before at.place) ≡ 0 = runs at.place at.within apart_there in
                absurd (omega (arith, gone, ap (λ slot. times_named (checkpoint ∷ checkpoints) slot) at.here, here))
          ]
      | inr none ↦ omega (arith, none)
    ]

-- places of two lists that are the same
get_or-by_places : (xs ys : List ℕ) (p : ℕ) → p < length xs → p < length ys → get_or (by_places nat_eq xs ys) p false ≡ nat_eq (slice_index xs p) (slice_index ys p)
get_or-by_places [] ys p within inside = absurd (omega arith)
get_or-by_places (x ∷ xs) [] p within inside = absurd (omega arith)
get_or-by_places (x ∷ xs) (y ∷ ys) zero within inside = refl
get_or-by_places (x ∷ xs) (y ∷ ys) (suc p) within inside = get_or-by_places xs ys p (omega arith) (omega arith)

get_or-by_places_past : (xs ys : List ℕ) (p : ℕ) → length ys ≤ p → get_or (by_places nat_eq xs ys) p false ≡ false
get_or-by_places_past [] [] p past = refl
get_or-by_places_past [] (y ∷ ys) p past = refl
get_or-by_places_past (x ∷ xs) [] zero past = refl
get_or-by_places_past (x ∷ xs) [] (suc p) past = get_or-by_places_past xs [] p (omega arith)
get_or-by_places_past (x ∷ xs) (y ∷ ys) zero past = absurd (omega arith)
get_or-by_places_past (x ∷ xs) (y ∷ ys) (suc p) past = get_or-by_places_past xs ys p (omega arith)

is_shared : (xs ys : List ℕ) (p : ℕ) → p < length xs → get_or (by_places nat_eq xs ys) p false ≡ true → (p < length ys) × (slice_index xs p ≡ slice_index ys p)
is_shared xs ys p within test = elim (cases_lt p (length ys)) [
  | inl inside ↦
      let same : nat_eq (slice_index xs p) (slice_index ys p) ≡ true = sym (get_or-by_places xs ys p within inside) ∙ test in
      (inside, grind (arith, nat_tests, same))
  | inr past ↦ let none : false ≡ true = sym (get_or-by_places_past xs ys p past) ∙ test in cc
]

isnt_shared : (xs ys : List ℕ) (p : ℕ) → p < length xs → get_or (by_places nat_eq xs ys) p false ≡ false → p < length ys → slice_index xs p ≢ slice_index ys p
isnt_shared xs ys p within test inside same =
    let yes : nat_eq (slice_index xs p) (slice_index ys p) ≡ true = grind (arith, nat_tests, same) in
    let none : true ≡ false = sym yes ∙ sym (get_or-by_places xs ys p within inside) ∙ test in
    cc

-- the next one shares with the one before where both shared with the one between
pub shared_over : (zs xs ys : List ℕ) → length zs ≡ length xs → ((p : ℕ) → p < length zs → p < length ys → slice_index zs p ≡ slice_index ys p → slice_index xs p ≡ slice_index ys p)
    → by_places nat_eq zs ys ≡ by_places (λ a b. a && b) (by_places nat_eq zs xs) (by_places nat_eq xs ys)
shared_over [] xs ys long between = refl
shared_over (z ∷ zs) [] ys long between = absurd (omega arith)
shared_over (z ∷ zs) (x ∷ xs) [] long between =
    rw (and_right (nat_eq z x) false refl) (ap (λ rest. false ∷ rest) (shared_over zs xs [] (omega arith) (λ p within inside. absurd (omega arith))))
shared_over (z ∷ zs) (x ∷ xs) (y ∷ ys) long between =
    let first : nat_eq z y ≡ (nat_eq z x && nat_eq x y) = elim (cases_eq z y) [
      | inl same ↦ let on : x ≡ y = between 0 (omega arith) (omega arith) same in grind (arith, nat_tests, same, on)
      | inr other ↦ grind (arith, nat_tests, other)
    ] in
    rw first (ap (λ rest. (nat_eq z x && nat_eq x y) ∷ rest) (shared_over zs xs ys (omega arith) (λ p within inside. between (suc p) (omega arith) (omega arith))))

-- slots that become free, against those of its own that the one dropped and the next one had
freed_last : (test : ℕ → Bool) (xs : List ℕ) (ds : List Bool) → length ds ≡ length xs → ((p : ℕ) → p < length xs → test (slice_index xs p) ≡ not (get_or ds p false)) → count_by test xs ≡ count_by not ds
freed_last test [] [] long each = refl
freed_last test [] (d ∷ ds) long each = absurd (omega arith)
freed_last test (x ∷ xs) [] long each = absurd (omega arith)
freed_last test (x ∷ xs) (d ∷ ds) long each =
    omega (arith, sum_by-cons (λ y. one_if (test y)) x xs, sum_by-cons (λ b. one_if (not b)) d ds, ap one_if (each 0 (omega arith)), freed_last test xs ds (omega arith) (λ p within. each (suc p) (omega arith)))

freed_between : (test : ℕ → Bool) (xs : List ℕ) (ds ns : List Bool) → length ds ≡ length xs → length ns ≡ length xs → ((p : ℕ) → p < length xs → test (slice_index xs p) ≡ (not (get_or ds p false) && not (get_or ns p false)))
    → count_by test xs + count_by not (by_places (λ a b. a && b) ns ds) ≡ count_by not ds + count_by not ns
freed_between test [] [] [] long next each = refl
freed_between test [] [] (n ∷ ns) long next each = absurd (omega arith)
freed_between test [] (d ∷ ds) ns long next each = absurd (omega arith)
freed_between test (x ∷ xs) [] ns long next each = absurd (omega arith)
freed_between test (x ∷ xs) (d ∷ ds) [] long next each = absurd (omega arith)
freed_between test (x ∷ xs) (d ∷ ds) (n ∷ ns) long next each =
    omega (
      arith,
      sum_by-cons (λ y. one_if (test y)) x xs,
      sum_by-cons (λ b. one_if (not b)) (n && d) (by_places (λ a b. a && b) ns ds),
      sum_by-cons (λ b. one_if (not b)) d ds,
      sum_by-cons (λ b. one_if (not b)) n ns,
      ap one_if (each 0 (omega arith)),
      both d n,
      freed_between test xs ds ns (omega arith) (omega arith) (λ p within. each (suc p) (omega arith)),
    )
  where
    both : (d n : Bool) → one_if (not d && not n) + one_if (not (n && d)) ≡ one_if (not d) + one_if (not n)
    both true true = refl
    both true false = refl
    both false true = refl
    both false false = refl

one_alone : (owners front rest : ℕ) (d n : Bool) → owners ≡ front + (1 + rest) → (d ≡ true → 0 < front) → (d ≡ false → front ≡ 0) → (n ≡ true → 0 < rest) → (n ≡ false → rest ≡ 0) → nat_eq owners 1 ≡ (not d && not n)
one_alone owners front rest true n sum shared own next last = let some = shared refl in grind (arith, nat_tests, sum, some)
one_alone owners front rest false true sum shared own next last = let some = next refl in grind (arith, nat_tests, sum, some)
one_alone owners front rest false false sum shared own next last = let none = own refl in let gone = last refl in grind (arith, nat_tests, sum, none, gone)

one_alone_last : (owners front : ℕ) (d : Bool) → owners ≡ front + 1 → (d ≡ true → 0 < front) → (d ≡ false → front ≡ 0) → nat_eq owners 1 ≡ not d
one_alone_last owners front true sum shared own = let some = shared refl in grind (arith, nat_tests, sum, some)
one_alone_last owners front false sum shared own = let none = own refl in grind (arith, nat_tests, sum, none)

used-cons : (checkpoint : Checkpoint) (live : List Checkpoint) → slots_used (checkpoint ∷ live) ≡ own_slots checkpoint.shared + slots_used live
used-cons checkpoint live = sum_by-cons (λ c. own_slots c.shared) checkpoint live

-- What is known at one of the checkpoints of a pool: those before it named slots so often, and the others follow.
pub record IsAmong {S : Type 0} (pool : List Slot) (times : ℕ → ℕ) (before : List ℕ) (checkpoints : List (LiveCheckpoint S)) : Type 0 where
  pub names : IsBefore times before checkpoints
  pub into : LeavesForGood before checkpoints
  pub runs : StandTogether checkpoints
  pub whole : AreWhole checkpoints
  pub long : length before ≤ 256
  pub owners : (k : ℕ) → (slot_at pool k).owners ≡ times k + times_named checkpoints k

pub among_all : {S : Type 0} (pool : List Slot) (checkpoints : List (LiveCheckpoint S)) → StandTogether checkpoints → AreWhole checkpoints → ((k : ℕ) → (slot_at pool k).owners ≡ times_named checkpoints k) → IsAmong pool (λ k. 0) [] checkpoints
among_all pool checkpoints runs whole owners = record { names = before_none checkpoints; into = into_none checkpoints; runs = runs; whole = whole; long = omega arith; owners = λ k. omega (arith, owners k) }
  where
    into_none : {S : Type 0} (checkpoints : List (LiveCheckpoint S)) → LeavesForGood [] checkpoints
    into_none [] = tt
    into_none (checkpoint ∷ checkpoints) = λ p within other. absurd (omega arith)

among_next : {S : Type 0} {pool : List Slot} {times : ℕ → ℕ} {before : List ℕ} {checkpoint : LiveCheckpoint S} {checkpoints : List (LiveCheckpoint S)} → IsAmong pool times before (checkpoint ∷ checkpoints) → IsAmong pool (λ k. times k + count_by (nat_eq k) checkpoint.pages) checkpoint.pages checkpoints
among_next {checkpoint = checkpoint} {checkpoints} is = record {
  names = before_next is.names is.into (omega (arith, is.long, is.whole.0));
  into = is.runs.1;
  runs = is.runs.2;
  whole = is.whole.1;
  long = omega (arith, is.whole.0);
  owners = λ k. omega (arith, is.owners k, times-cons checkpoint checkpoints k);
}

-- the slot at a page, among the checkpoints before it
among_before : {S : Type 0} {pool : List Slot} {times : ℕ → ℕ} {before : List ℕ} {checkpoint : LiveCheckpoint S} {checkpoints : List (LiveCheckpoint S)} → IsAmong pool times before (checkpoint ∷ checkpoints) → (p : ℕ) → p < length checkpoint.pages
    → (get_or (by_places nat_eq checkpoint.pages before) p false ≡ true → 0 < times (slice_index checkpoint.pages p)) × (get_or (by_places nat_eq checkpoint.pages before) p false ≡ false → times (slice_index checkpoint.pages p) ≡ 0)
among_before {times = times} {before} {checkpoint} is p within = (
  λ test. let at = is_shared checkpoint.pages before p within test in omega (arith, is.names.counted p at.0, ap times at.1),
  λ test. shared_before is.names is.into is.runs.0 (omega (arith, is.long, is.whole.0)) p within (isnt_shared checkpoint.pages before p within test),
)

-- and among those after it
among_after : {S : Type 0} {pool : List Slot} {times : ℕ → ℕ} {before : List ℕ} {checkpoint next : LiveCheckpoint S} {checkpoints : List (LiveCheckpoint S)} → IsAmong pool times before (checkpoint ∷ (next ∷ checkpoints)) → (p : ℕ) → p < length checkpoint.pages
    → (get_or (by_places nat_eq next.pages checkpoint.pages) p false ≡ true → 0 < times_named (next ∷ checkpoints) (slice_index checkpoint.pages p)) × (get_or (by_places nat_eq next.pages checkpoint.pages) p false ≡ false → times_named (next ∷ checkpoints) (slice_index checkpoint.pages p) ≡ 0)
among_after {checkpoint = checkpoint} {next} {checkpoints} is p within =
    let inside : p < length next.pages = omega (arith, within, is.whole.0, is.whole.1.0) in (
      λ test.
          let at = is_shared next.pages checkpoint.pages p inside test in
          omega (arith, count_named (slice_index checkpoint.pages p) next.pages p inside at.1, times-cons next checkpoints (slice_index checkpoint.pages p)),
      λ test. is.runs.1 p within (isnt_shared next.pages checkpoint.pages p inside test within),
    )

named_there : (slots : List ℕ) → AreApart slots → (p : ℕ) → p < length slots → count_by (nat_eq (slice_index slots p)) slots ≡ 1
named_there slots apart p within = omega (arith, apart (slice_index slots p), count_named (slice_index slots p) slots p within refl)

-- what the next one shares once the first one is dropped
next_over : {S : Type 0} {pool : List Slot} {times : ℕ → ℕ} {before : List ℕ} {checkpoint next : LiveCheckpoint S} {checkpoints : List (LiveCheckpoint S)} → IsAmong pool times before (checkpoint ∷ (next ∷ checkpoints))
    → by_places nat_eq next.pages before ≡ by_places (λ a b. a && b) (by_places nat_eq next.pages checkpoint.pages) (by_places nat_eq checkpoint.pages before)
next_over {before = before} {checkpoint} {next} {checkpoints} is = shared_over next.pages checkpoint.pages before (is.whole.1.0 ∙ sym is.whole.0) (λ p within inside same. elim (cases_eq (slice_index checkpoint.pages p) (slice_index before p)) [
  | inl here ↦ here
  | inr other ↦
      let k = slice_index before p in
      absurd (omega (arith, is.into p inside other, count_named k next.pages p within same, times-cons checkpoint (next ∷ checkpoints) k, times-cons next checkpoints k))
])

-- the slots in use once the first one is dropped
used_first : {S : Type 0} {pool : List Slot} {times : ℕ → ℕ} {before : List ℕ} (checkpoint : LiveCheckpoint S) (checkpoints : List (LiveCheckpoint S)) → IsAmong pool times before (checkpoint ∷ checkpoints)
    → count_by (has_one_owner pool) checkpoint.pages + slots_used (checkpoints_after pool before checkpoints) ≡ slots_used (checkpoints_after pool before (checkpoint ∷ checkpoints))
used_first {pool = pool} {times} {before} checkpoint [] is =
    let ds = by_places nat_eq checkpoint.pages before in
    let freed : count_by (has_one_owner pool) checkpoint.pages ≡ count_by not ds = freed_last (has_one_owner pool) checkpoint.pages ds (length-by_places nat_eq checkpoint.pages before) (λ p within.
    let k = slice_index checkpoint.pages p in
    one_alone_last (slot_at pool k).owners (times k) (get_or ds p false) (omega (arith, is.owners k, times-cons checkpoint [] k, named_there checkpoint.pages is.runs.0 p within)) (among_before is p within).0 (among_before is p within).1) in
    omega (arith, freed, used-cons (record { sample = checkpoint.sample; pages = pages_in pool checkpoint.pages; shared = ds }) [])
used_first {pool = pool} {times} {before} checkpoint (next ∷ rest) is =
    let ds = by_places nat_eq checkpoint.pages before in
    let ns = by_places nat_eq next.pages checkpoint.pages in
    let tail = checkpoints_after pool next.pages rest in
    let over = next_over is in
    let freed : count_by (has_one_owner pool) checkpoint.pages + count_by not (by_places (λ a b. a && b) ns ds) ≡ count_by not ds + count_by not ns =
    freed_between (has_one_owner pool) checkpoint.pages ds ns (length-by_places nat_eq checkpoint.pages before) (length-by_places nat_eq next.pages checkpoint.pages ∙ is.whole.1.0 ∙ sym is.whole.0) (λ p within.
    let k = slice_index checkpoint.pages p in
    one_alone (slot_at pool k).owners (times k) (times_named (next ∷ rest) k) (get_or ds p false) (get_or ns p false)
    (omega (arith, is.owners k, times-cons checkpoint (next ∷ rest) k, named_there checkpoint.pages is.runs.0 p within)) (among_before is p within).0 (among_before is p within).1 (among_after is p within).0 (among_after is p within).1) in
    omega (
      arith,
      freed,
      ap (λ shared. count_by not shared) over,
      used-cons (record { sample = checkpoint.sample; pages = pages_in pool checkpoint.pages; shared = ds }) (checkpoints_after pool checkpoint.pages (next ∷ rest)),
      used-cons (record { sample = next.sample; pages = pages_in pool next.pages; shared = ns }) tail,
      used-cons (record { sample = next.sample; pages = pages_in pool next.pages; shared = by_places nat_eq next.pages before }) tail,
    )

pub used_removed : {S : Type 0} {pool : List Slot} (checkpoints : List (LiveCheckpoint S)) (i : ℕ) {times : ℕ → ℕ} {before : List ℕ} (checkpoint : LiveCheckpoint S) → IsAmong pool times before checkpoints → i < length checkpoints → checkpoint ≡ get_or checkpoints i checkpoint
    → count_by (has_one_owner pool) checkpoint.pages + slots_used (checkpoints_after pool before (remove checkpoints i)) ≡ slots_used (checkpoints_after pool before checkpoints)
used_removed [] i checkpoint is within read = absurd (omega arith)
used_removed {pool = pool} (x ∷ xs) zero {times} {before} checkpoint is within read =
    ap (λ m. count_by (has_one_owner pool) m.pages + slots_used (checkpoints_after pool before xs)) read ∙ used_first x xs is
used_removed {pool = pool} (x ∷ xs) (suc i) {times} {before} checkpoint is within read =
    let first : Checkpoint = record { sample = x.sample; pages = pages_in pool x.pages; shared = by_places nat_eq x.pages before } in
    omega (
      arith,
      used_removed xs i checkpoint (among_next is) (omega arith) read,
      used-cons first (checkpoints_after pool x.pages xs),
      used-cons first (checkpoints_after pool x.pages (remove xs i)),
    )

-- the checkpoints once one is dropped
pub live_removed : {S : Type 0} {pool : List Slot} (checkpoints : List (LiveCheckpoint S)) (i : ℕ) {times : ℕ → ℕ} {before : List ℕ} → IsAmong pool times before checkpoints → i < length checkpoints
    → checkpoints_after pool before (remove checkpoints i) ≡ without_entry (checkpoints_after pool before checkpoints) i
live_removed [] i is within = absurd (omega arith)
live_removed (x ∷ []) zero is within = refl
live_removed {pool = pool} (x ∷ (next ∷ rest)) zero is within =
    ap (λ shared. record { sample = next.sample; pages = pages_in pool next.pages; shared = shared } ∷ checkpoints_after pool next.pages rest) (next_over is)
live_removed {pool = pool} (x ∷ xs) (suc i) {times} {before} is within =
    ap (λ others. record { sample = x.sample; pages = pages_in pool x.pages; shared = by_places nat_eq x.pages before } ∷ others) (live_removed xs i (among_next is) (omega arith))

-- what stays of the order
times-remove-le : {S : Type 0} (checkpoint : LiveCheckpoint S) (checkpoints : List (LiveCheckpoint S)) (i k : ℕ) → i < length checkpoints → times_named (remove checkpoints i) k ≤ times_named checkpoints k
times-remove-le checkpoint checkpoints i k within = omega (arith, sum_by-remove (λ m. count_by (nat_eq k) m.pages) checkpoints i checkpoint within)

into_removed : {S : Type 0} {pool : List Slot} (checkpoints : List (LiveCheckpoint S)) (i : ℕ) {times : ℕ → ℕ} {before : List ℕ} → IsAmong pool times before checkpoints → i < length checkpoints → LeavesForGood before (remove checkpoints i)
into_removed [] i is within = absurd (omega arith)
into_removed (x ∷ []) zero is within = tt
into_removed (x ∷ (next ∷ rest)) zero {times} {before} is within = λ p inside other. elim (cases_eq (slice_index x.pages p) (slice_index before p)) [
  | inl same ↦
      let none : times_named (next ∷ rest) (slice_index x.pages p) ≡ 0 = is.runs.1 p (omega (arith, inside, is.long, is.whole.0)) (λ e. other (e ∙ same)) in
      ap (λ k. times_named (next ∷ rest) k) (sym same) ∙ none
  | inr apart ↦ omega (arith, is.into p inside apart, times-cons x (next ∷ rest) (slice_index before p))
]
into_removed (x ∷ xs) (suc i) {times} {before} is within = λ p inside other.
    let k = slice_index before p in
    omega (arith, is.into p inside other, times-cons x xs k, times-cons x (remove xs i) k, times-remove-le x xs i k (omega arith))

pub runs_removed : {S : Type 0} {pool : List Slot} (checkpoints : List (LiveCheckpoint S)) (i : ℕ) {times : ℕ → ℕ} {before : List ℕ} → IsAmong pool times before checkpoints → i < length checkpoints → StandTogether (remove checkpoints i)
runs_removed [] i is within = absurd (omega arith)
runs_removed (x ∷ xs) zero is within = is.runs.2
runs_removed (x ∷ xs) (suc i) is within = (is.runs.0, into_removed xs i (among_next is) (omega arith), runs_removed xs i (among_next is) (omega arith))

pub whole_removed : {S : Type 0} (checkpoints : List (LiveCheckpoint S)) (i : ℕ) → AreWhole checkpoints → AreWhole (remove checkpoints i)
whole_removed [] zero whole = tt
whole_removed [] (suc i) whole = tt
whole_removed (x ∷ xs) zero whole = whole.1
whole_removed (x ∷ xs) (suc i) whole = (whole.0, whole_removed xs i whole.1)

pub map_removed : {A B : Type 0} (f : A → B) (xs : List A) (i : ℕ) → map f (remove xs i) ≡ remove (map f xs) i
map_removed f [] zero = refl
map_removed f [] (suc i) = refl
map_removed f (x ∷ xs) zero = refl
map_removed f (x ∷ xs) (suc i) = ap (λ rest. f x ∷ rest) (map_removed f xs i)
