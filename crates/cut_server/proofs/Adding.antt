-- One checkpoint more.
use Rattle.std.proofs.Common.{◌≡◌, ℕ, zero, suc, ◌+◌, ◌*◌, ◌<◌, ◌≤◌, Bool, false, not, nat_eq, replicate, List, [], ◌∷◌, ◌++◌, length, map, take, get_or, refl, sym, ap, ◌∙◌, arith, inl, inr}
use Rattle.std.specs.Prelude.{slice_index}
use Rattle.std.specs.List.{count_by}
use Rattle.std.specs.Str.{bytes_eq}
use Rattle.std.proofs.lemmas.List.{take_all, length_push, map_push}
use Rattle.std.proofs.lemmas.List.Sums.{sum_by-cons, sum_by_push, count_by-le-length}
use Rattle.std.proofs.lemmas.Bool.{cases_eq, cases_lt}
use Rattle.page_pool.specs.declared.slot.Slot.{Slot}
use Rattle.page_pool.specs.Pool.{free_slot, is_free, slot_at, free_slots, KeepsBytes}
use Rattle.cut_server.specs.declared.table.LiveCheckpoint.{LiveCheckpoint}
use Rattle.cut_form.specs.Checkpoints.{Checkpoint, pages_of, by_places, shared_with_newest, own_slots, slots_used, with_checkpoint}
use Rattle.cut_server.specs.Table.{Saved, saved_checkpoint, saved_checkpoints, memory_in, pages_in, checkpoints_after, times_named, max_named, AreWhole, AreApart, LeavesForGood, StandTogether, AreKeptIn, newest_from}
use Rattle.cut_server.specs.Placing.{shared_slots, AreOwned, ArePlaced}
use Rattle.cut_server.proofs.Shared.{length-by_places, length-pages_of, memory_of_pages}
use Rattle.page_pool.proofs.Links.{one_if}
use Rattle.cut_server.proofs.Naming.{times-cons, times-push, IsNamedAt, named_place, count_named, apart_places}
use Rattle.cut_server.proofs.Placing.{owned_counted, pages_in-kept}

-- the pages of each checkpoint are owned
unfoldable pub AllOwned : {S : Type 0} → List Slot → (most : ℕ) → List (LiveCheckpoint S) → Type 0
AllOwned pool most [] = Unit {0}
AllOwned pool most (checkpoint ∷ checkpoints) = AreOwned pool most checkpoint.pages × AllOwned pool most checkpoints

times-le : {S : Type 0} (checkpoints : List (LiveCheckpoint S)) (k : ℕ) → AreWhole checkpoints → times_named checkpoints k ≤ 256 * length checkpoints
times-le [] k whole = omega arith
times-le (checkpoint ∷ checkpoints) k whole = omega (arith, times-cons checkpoint checkpoints k, count_by-le-length (nat_eq k) checkpoint.pages, whole.0, times-le checkpoints k whole.1)

pub owners_few : {S : Type 0} {pool : List Slot} {checkpoints : List (LiveCheckpoint S)} → AreKeptIn pool checkpoints → (k : ℕ) → (slot_at pool k).owners ≤ max_named
owners_few {checkpoints = checkpoints} kept k = omega (arith, kept.owners k, kept.few, times-le checkpoints k kept.whole)

pub all_owned : {S : Type 0} (pool : List Slot) (most : ℕ) (checkpoints : List (LiveCheckpoint S)) → ((k : ℕ) → times_named checkpoints k ≤ (slot_at pool k).owners) → ((k : ℕ) → (slot_at pool k).owners ≤ most) → AllOwned pool most checkpoints
unfolding AllOwned
all_owned pool most [] counted few = tt
all_owned pool most (checkpoint ∷ checkpoints) counted few = (
  owned_counted pool most checkpoint.pages (λ k. omega (arith, counted k, times-cons checkpoint checkpoints k)) few,
  all_owned pool most checkpoints (λ k. omega (arith, counted k, times-cons checkpoint checkpoints k)) few,
)

newest_owned : {S : Type 0} (pool : List Slot) (most : ℕ) (before : List ℕ) (checkpoints : List (LiveCheckpoint S)) → AreOwned pool most before → AllOwned pool most checkpoints → AreOwned pool most (newest_from before checkpoints)
unfolding AllOwned
newest_owned pool most before [] here owned = here
newest_owned pool most before (checkpoint ∷ checkpoints) here owned = newest_owned pool most checkpoint.pages checkpoints owned.0 owned.1

kept_owned : {S : Type 0} {pool : List Slot} {checkpoints : List (LiveCheckpoint S)} → AreKeptIn pool checkpoints → AllOwned pool max_named checkpoints
kept_owned {pool = pool} {checkpoints} kept = all_owned pool max_named checkpoints (λ k. omega (arith, kept.owners k)) (owners_few kept)

pub newest_is_owned : {S : Type 0} {pool : List Slot} {checkpoints : List (LiveCheckpoint S)} → AreKeptIn pool checkpoints → AreOwned pool max_named (newest_from [] checkpoints)
newest_is_owned {pool = pool} {checkpoints} kept = newest_owned pool max_named [] checkpoints tt (kept_owned kept)

pub newest_apart : {S : Type 0} {pool : List Slot} {checkpoints : List (LiveCheckpoint S)} → AreKeptIn pool checkpoints → AreApart (newest_from [] checkpoints)
newest_apart {S = S} {checkpoints = checkpoints} kept = last_apart [] checkpoints (λ k. omega arith) kept.runs
  where
    last_apart : (before : List ℕ) (checkpoints : List (LiveCheckpoint S)) → AreApart before → StandTogether checkpoints → AreApart (newest_from before checkpoints)
    last_apart before [] apart runs = apart
    last_apart before (checkpoint ∷ checkpoints) apart runs = last_apart checkpoint.pages checkpoints runs.0 runs.2

-- which pages are shared with the newest
by_places_none : (pages : List (List ℕ)) → map (λ page. false) pages ≡ by_places bytes_eq pages []
by_places_none [] = refl
by_places_none (x ∷ xs) = ap (λ rest. false ∷ rest) (by_places_none xs)

shared_after : {S : Type 0} (pool : List Slot) (before : List ℕ) (checkpoint : LiveCheckpoint S) (checkpoints : List (LiveCheckpoint S)) (pages : List (List ℕ))
    → shared_with_newest (checkpoints_after pool before (checkpoint ∷ checkpoints)) pages ≡ shared_slots pool (newest_from checkpoint.pages checkpoints) pages
shared_after pool before checkpoint [] pages = refl
shared_after pool before checkpoint (next ∷ checkpoints) pages = shared_after pool checkpoint.pages next checkpoints pages

pub shared_live : {S : Type 0} (pool : List Slot) (checkpoints : List (LiveCheckpoint S)) (pages : List (List ℕ)) → shared_with_newest (checkpoints_after pool [] checkpoints) pages ≡ shared_slots pool (newest_from [] checkpoints) pages
shared_live pool [] pages = by_places_none pages
shared_live pool (checkpoint ∷ checkpoints) pages = shared_after pool [] checkpoint checkpoints pages

-- memories stay
memory_in-kept : (old new : List Slot) (a b : ℕ) (slots : List ℕ) → KeepsBytes old new → AreOwned old a slots → AreOwned new b slots → memory_in new slots ≡ memory_in old slots
memory_in-kept old new a b [] keeps was is = refl
memory_in-kept old new a b (x ∷ xs) keeps was is = rw (keeps x was.0 is.0, memory_in-kept old new a b xs keeps was.2 is.2) refl

pub saved_checkpoints-kept : {S : Type 0} (old new : List Slot) (a b : ℕ) (checkpoints : List (LiveCheckpoint S)) → KeepsBytes old new → AllOwned old a checkpoints → AllOwned new b checkpoints → saved_checkpoints new checkpoints ≡ saved_checkpoints old checkpoints
unfolding AllOwned
saved_checkpoints-kept old new a b [] keeps was is = refl
saved_checkpoints-kept old new a b (checkpoint ∷ checkpoints) keeps was is = rw (memory_in-kept old new a b checkpoint.pages keeps was.0 is.0, saved_checkpoints-kept old new a b checkpoints keeps was.1 is.1) refl

checkpoints-kept : {S : Type 0} (old new : List Slot) (a b : ℕ) (before : List ℕ) (checkpoints : List (LiveCheckpoint S)) (checkpoint : LiveCheckpoint S) → KeepsBytes old new → AllOwned old a checkpoints → AllOwned new b checkpoints
    → checkpoints_after new before (checkpoints ++ checkpoint ∷ []) ≡ checkpoints_after old before checkpoints ++ record { sample = checkpoint.sample; pages = pages_in new checkpoint.pages; shared = by_places nat_eq checkpoint.pages (newest_from before checkpoints) } ∷ []
unfolding AllOwned
checkpoints-kept old new a b before [] checkpoint keeps was is = refl
checkpoints-kept old new a b before (x ∷ xs) checkpoint keeps was is = rw (pages_in-kept old new a b x.pages keeps was.0 is.0, checkpoints-kept old new a b x.pages xs checkpoint keeps was.1 is.1) refl

-- the table with one more
later_owned : {S : Type 0} {old : List Slot} {checkpoints : List (LiveCheckpoint S)} → AreKeptIn old checkpoints → (new : List Slot) (newest : List ℕ) (pages : List (List ℕ)) (slots : List ℕ) → ArePlaced old new newest pages slots → AllOwned new (max_named + length slots) checkpoints
later_owned {old = old} {checkpoints} kept new newest pages slots are =
    all_owned new (max_named + length slots) checkpoints (λ k. omega (arith, are.owners k, kept.owners k)) (λ k. omega (arith, are.owners k, owners_few kept k, count_by-le-length (nat_eq k) slots))

pub saved_added : {S : Type 0} {old : List Slot} {checkpoints : List (LiveCheckpoint S)} → AreKeptIn old checkpoints → (new : List Slot) (newest : List ℕ) (memory : List ℕ) (checkpoint : LiveCheckpoint S) → ArePlaced old new newest (pages_of memory) checkpoint.pages
    → memory_in new checkpoint.pages ≡ memory → saved_checkpoints new (checkpoints ++ checkpoint ∷ []) ≡ saved_checkpoints old checkpoints ++ record { sample = checkpoint.sample; state = checkpoint.state; memory = memory } ∷ []
saved_added {S = S} {old} {checkpoints} kept new newest memory checkpoint are holds =
    let make : List ℕ → List (Saved S) = λ m. saved_checkpoints old checkpoints ++ record { sample = checkpoint.sample; state = checkpoint.state; memory = m } ∷ [] in
    map_push (saved_checkpoint new) checkpoints checkpoint
    ∙ ap (λ l. l ++ saved_checkpoint new checkpoint ∷ []) (saved_checkpoints-kept old new max_named (max_named + length checkpoint.pages) checkpoints are.bytes (kept_owned kept) (later_owned kept new newest (pages_of memory) checkpoint.pages are))
    ∙ ap make holds

pub live_added : {S : Type 0} {old : List Slot} {checkpoints : List (LiveCheckpoint S)} → AreKeptIn old checkpoints → (new : List Slot) (memory : List ℕ) (checkpoint : LiveCheckpoint S) → ArePlaced old new (newest_from [] checkpoints) (pages_of memory) checkpoint.pages → length checkpoint.pages ≡ 256
    → checkpoints_after new [] (checkpoints ++ checkpoint ∷ []) ≡ with_checkpoint (checkpoints_after old [] checkpoints) checkpoint.sample (pages_of memory)
live_added {old = old} {checkpoints} kept new memory checkpoint are whole =
    let newest = newest_from [] checkpoints in
    let sh = shared_slots old newest (pages_of memory) in
    let long : length sh ≡ 256 = length-by_places bytes_eq (pages_of memory) (pages_in old newest) ∙ length-pages_of memory in
    let pages : pages_in new checkpoint.pages ≡ pages_of memory = are.holds ∙ take_all (length checkpoint.pages) (pages_of memory) (omega (arith, length-pages_of memory)) in
    let shared : by_places nat_eq checkpoint.pages newest ≡ shared_with_newest (checkpoints_after old [] checkpoints) (pages_of memory) = are.shared ∙ take_all (length checkpoint.pages) sh (omega arith) ∙ sym (shared_live old checkpoints (pages_of memory)) in
    let make : List (List ℕ) → List Bool → List Checkpoint = λ p s. checkpoints_after old [] checkpoints ++ record { sample = checkpoint.sample; pages = p; shared = s } ∷ [] in
    checkpoints-kept old new max_named (max_named + length checkpoint.pages) [] checkpoints checkpoint are.bytes (kept_owned kept) (later_owned kept new newest (pages_of memory) checkpoint.pages are)
    ∙ ap (λ p. make p (by_places nat_eq checkpoint.pages newest)) pages ∙ ap (λ s. make (pages_of memory) s) shared

pub free_added : {S : Type 0} (old : List Slot) (checkpoints : List (LiveCheckpoint S)) (new : List Slot) (memory : List ℕ) (slots : List ℕ) → ArePlaced old new (newest_from [] checkpoints) (pages_of memory) slots → length slots ≡ 256
    → free_slots new + own_slots (shared_with_newest (checkpoints_after old [] checkpoints) (pages_of memory)) ≡ free_slots old
free_added old checkpoints new memory slots are whole =
    let newest = newest_from [] checkpoints in
    let sh = shared_slots old newest (pages_of memory) in
    let long : length sh ≡ 256 = length-by_places bytes_eq (pages_of memory) (pages_in old newest) ∙ length-pages_of memory in
    let all : take (length slots) sh ≡ sh = take_all (length slots) sh (omega arith) in
    rw (shared_live old checkpoints (pages_of memory), ← all) are.free

whole_added : {S : Type 0} (checkpoints : List (LiveCheckpoint S)) (checkpoint : LiveCheckpoint S) → AreWhole checkpoints → length checkpoint.pages ≡ 256 → AreWhole (checkpoints ++ checkpoint ∷ [])
whole_added [] checkpoint whole here = (here, tt)
whole_added (x ∷ xs) checkpoint whole here = (whole.0, whole_added xs checkpoint whole.1 here)

-- a slot that has an owner, and that the one added names, is that of the newest at this page
newest_again : (old new : List Slot) (newest : List ℕ) (pages : List (List ℕ)) (slots : List ℕ) → ArePlaced old new newest pages slots → (k : ℕ) → 0 < (slot_at old k).owners → (at : IsNamedAt slots k)
    → (at.place < length newest) × (slice_index newest at.place ≡ k)
newest_again old new newest pages slots are k some at = elim (cases_lt at.place (length newest)) [
  | inl inside ↦ elim (cases_eq (slice_index slots at.place) (slice_index newest at.place)) [
    | inl same ↦ (inside, sym same ∙ at.here)
    | inr other ↦ absurd (no_owner (are.fresh at.place at.within (λ shared. other)))
  ]
  | inr past ↦ absurd (no_owner (are.fresh at.place at.within (λ shared. absurd (omega (arith, shared, past)))))
]
  where
    no_owner : (slot_at old (slice_index slots at.place)).owners ≡ 0 → ⊥
    no_owner none = omega (arith, none, ap (λ i. (slot_at old i).owners) at.here, some)

-- the slots of the newest are named
newest_named : {S : Type 0} (checkpoint : LiveCheckpoint S) (checkpoints : List (LiveCheckpoint S)) (k p : ℕ) → p < length (newest_from checkpoint.pages checkpoints) → slice_index (newest_from checkpoint.pages checkpoints) p ≡ k → 0 < times_named (checkpoint ∷ checkpoints) k
newest_named checkpoint [] k p within here = omega (arith, count_named k checkpoint.pages p within here, times-cons checkpoint [] k)
newest_named checkpoint (next ∷ rest) k p within here = omega (arith, newest_named next rest k p within here, times-cons checkpoint (next ∷ rest) k)

-- the one added goes on where the newest stands
into_added : {S : Type 0} {old new : List Slot} {pages : List (List ℕ)} (before : List ℕ) (checkpoints : List (LiveCheckpoint S)) (checkpoint : LiveCheckpoint S) → ArePlaced old new (newest_from before checkpoints) pages checkpoint.pages → LeavesForGood before checkpoints → AreApart before
    → ((p : ℕ) → p < length before → 0 < (slot_at old (slice_index before p)).owners) → length before ≤ length checkpoint.pages → LeavesForGood before (checkpoints ++ checkpoint ∷ [])
into_added {old = old} {new} {pages} before [] checkpoint are into apart owned long = λ p inside other.
    let k = slice_index before p in
    elim (cases_lt 0 (count_by (nat_eq k) checkpoint.pages)) [
      | inl some ↦
          let at = named_place k checkpoint.pages some in
          let again = newest_again old new before pages checkpoint.pages are k (owned p inside) at in
          let place : at.place ≡ p = apart_places before apart at.place p again.0 inside again.1 in
          absurd (other (ap (slice_index checkpoint.pages) (sym place) ∙ at.here))
      | inr none ↦ omega (arith, none, times-cons checkpoint [] k)
    ]
into_added {old = old} {new} {pages} before (next ∷ rest) checkpoint are into apart owned long = λ p inside other.
    let k = slice_index before p in
    elim (cases_lt 0 (count_by (nat_eq k) checkpoint.pages)) [
      | inl some ↦
          let at = named_place k checkpoint.pages some in
          let again = newest_again old new (newest_from next.pages rest) pages checkpoint.pages are k (owned p inside) at in
          absurd (omega (arith, into p inside other, newest_named next rest k at.place again.0 again.1))
      | inr none ↦ omega (arith, into p inside other, none, times-push (next ∷ rest) checkpoint k)
    ]

runs_added : {S : Type 0} {old new : List Slot} {pages : List (List ℕ)} (before : List ℕ) (checkpoints : List (LiveCheckpoint S)) (checkpoint : LiveCheckpoint S) → ArePlaced old new (newest_from before checkpoints) pages checkpoint.pages → StandTogether checkpoints → AreWhole checkpoints
    → length checkpoint.pages ≡ 256 → ((k : ℕ) → times_named checkpoints k ≤ (slot_at old k).owners) → StandTogether (checkpoints ++ checkpoint ∷ [])
runs_added before [] checkpoint are runs whole long counted = (are.apart, tt, tt)
runs_added {old = old} before (x ∷ xs) checkpoint are runs whole long counted = (
  runs.0,
  into_added x.pages xs checkpoint are runs.1 runs.0 (λ p within. omega (arith, counted (slice_index x.pages p), times-cons x xs (slice_index x.pages p), count_named (slice_index x.pages p) x.pages p within refl)) (omega (arith, whole.0, long)),
  runs_added x.pages xs checkpoint are runs.2 whole.1 long (λ k. omega (arith, counted k, times-cons x xs k)),
)

pub kept_added : {S : Type 0} {old : List Slot} {checkpoints : List (LiveCheckpoint S)} → AreKeptIn old checkpoints → (new : List Slot) (memory : List ℕ) (checkpoint : LiveCheckpoint S) → ArePlaced old new (newest_from [] checkpoints) (pages_of memory) checkpoint.pages → length checkpoint.pages ≡ 256
    → length checkpoints < 64 → AreKeptIn new (checkpoints ++ checkpoint ∷ [])
kept_added {old = old} {checkpoints} kept new memory checkpoint are whole room =
    let live = checkpoints_after old [] checkpoints in
    let added : Checkpoint = record { sample = checkpoint.sample; pages = pages_of memory; shared = shared_with_newest live (pages_of memory) } in
    record {
      owners = λ k. omega (arith, are.owners k, kept.owners k, times-push checkpoints checkpoint k);
      whole = whole_added checkpoints checkpoint kept.whole whole;
      few = omega (arith, length_push checkpoints checkpoint);
      runs = runs_added [] checkpoints checkpoint are kept.runs kept.whole whole (λ k. omega (arith, kept.owners k));
      used = omega (
        arith,
        kept.used,
        are.size,
        free_added old checkpoints new memory checkpoint.pages are whole,
        ap slots_used (live_added kept new memory checkpoint are whole),
        sum_by_push (λ checkpoint. own_slots checkpoint.shared) live added,
      );
    }

-- the newest is the last one
pub newest_read : {S : Type 0} (before : List ℕ) (checkpoints : List (LiveCheckpoint S)) (i : ℕ) (checkpoint : LiveCheckpoint S) → length checkpoints ≡ suc i → checkpoint ≡ get_or checkpoints i checkpoint → checkpoint.pages ≡ newest_from before checkpoints
newest_read before [] i checkpoint long read = absurd (omega arith)
newest_read before (x ∷ []) zero checkpoint long read = ap (λ m. m.pages) read
newest_read before (x ∷ []) (suc i) checkpoint long read = absurd (omega arith)
newest_read before (x ∷ (y ∷ rest)) zero checkpoint long read = absurd (omega arith)
newest_read before (x ∷ (y ∷ rest)) (suc i) checkpoint long read = newest_read x.pages (y ∷ rest) i checkpoint (omega arith) read

pub memory_added : (old new : List Slot) (newest : List ℕ) (memory : List ℕ) (slots : List ℕ) → ArePlaced old new newest (pages_of memory) slots → length slots ≡ 256 → length memory ≡ 0x10000 → memory_in new slots ≡ memory
memory_added old new newest memory slots are whole long = memory_of_pages new slots memory long (are.holds ∙ take_all (length slots) (pages_of memory) (omega (arith, length-pages_of memory)))

-- an empty table
needed_none : (pages : List (List ℕ)) → own_slots (shared_with_newest [] pages) ≡ length pages
needed_none [] = refl
needed_none (x ∷ xs) = sum_by-cons (λ b. one_if (not b)) false (map (λ page. false) xs) ∙ omega (arith, needed_none xs)

free_replicate : (n : ℕ) → free_slots (replicate n free_slot) ≡ n
free_replicate zero = refl
free_replicate (suc n) = sum_by-cons (λ s. one_if (is_free s)) free_slot (replicate n free_slot) ∙ omega (arith, free_replicate n)

pub needed_first : {S : Type 0} (pool : List Slot) (checkpoints : List (LiveCheckpoint S)) (memory : List ℕ) → checkpoints ≡ [] → own_slots (shared_with_newest (checkpoints_after pool [] checkpoints) (pages_of memory)) ≡ 256
needed_first pool checkpoints memory none = rw none (needed_none (pages_of memory) ∙ length-pages_of memory)

pub free_first : {pool : List Slot} (pages : ℕ) → pool ≡ replicate pages free_slot → free_slots pool ≡ pages
free_first pages is = ap free_slots is ∙ free_replicate pages
