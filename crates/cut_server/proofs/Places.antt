-- The places of a table, as its parts see them.
use Rattle.std.proofs.Common.{◌≡◌, ℕ, nat_eq, nat_lt, Option, Some, None, IsNone, suc, ◌+◌, ◌<◌, ◌≤◌, nat_le, inl, inr, true, false, ◌==◌, ◌||◌, List, [], ◌∷◌, ◌++◌, length, take, max, if◌then◌else◌, map, get_or, refl, sym, ap, ◌∙◌, subst, arith}
use Rattle.std.specs.Prelude.{slice_index, IfSome, ◌↔◌}
use Rattle.std.specs.List.{list_any, position, position_or_len}
use Rattle.std.proofs.lemmas.List.{length-map, get_or-map, take_more}
use Rattle.std.proofs.lemmas.Bool.{cases_Bool}
use Rattle.std.proofs.lemmas.Bool.Decides.{nat_tests}
use Rattle.page_pool.specs.declared.slot.Slot.{Slot}
use Rattle.cut_form.specs.Checkpoints.{Checkpoint, by_places, stands_at, nearest, greatest_up_to, without_entry, without_checkpoint}
use Rattle.cut_server.specs.declared.table.LiveCheckpoint.{LiveCheckpoint}
use Rattle.cut_server.specs.IsServed.{BeginAtOpening}
use Rattle.cut_server.specs.Table.{TableState, saved_checkpoints, samples_of, live_checkpoints, pages_in, checkpoints_after}

-- a book has as many checkpoints as the table
pub length-checkpoints_after : {S : Type 0} (pool : List Slot) (before : List ℕ) (checkpoints : List (LiveCheckpoint S)) → length (checkpoints_after pool before checkpoints) ≡ length checkpoints
length-checkpoints_after pool before [] = refl
length-checkpoints_after pool before (checkpoint ∷ checkpoints) = ap (λ n. suc n) (length-checkpoints_after pool checkpoint.pages checkpoints)

pub length-live : {S : Type 0} (table : TableState S) → length (live_checkpoints table) ≡ length table.checkpoints
length-live table = length-checkpoints_after table.pool [] table.checkpoints

-- the last one at or before a sample is so
greatest_up_to-le : (numbers : List ℕ) (at : ℕ) → greatest_up_to numbers at ≤ at
greatest_up_to-le [] at = omega arith
greatest_up_to-le (number ∷ rest) at = elim (cases_Bool (nat_le number at)) [
  | inl before ↦ let first : number ≤ at = grind (arith, nat_tests) in rw before (omega (arith, greatest_up_to-le rest at))
  | inr later ↦ rw later (greatest_up_to-le rest at)
]

pub nearest-le : (live : List Checkpoint) (at : ℕ) → nearest live at ≤ at
nearest-le live at = greatest_up_to-le (map (λ checkpoint. checkpoint.sample) live) at

-- one number more
greatest_up_to-push : (numbers : List ℕ) (number at : ℕ) → greatest_up_to (numbers ++ number ∷ []) at ≡ (if nat_le number at then max (greatest_up_to numbers at) number else greatest_up_to numbers at)
greatest_up_to-push [] number at = elim (cases_Bool (nat_le number at)) [
  | inl before ↦ rw before (omega arith)
  | inr later ↦ rw later refl
]
greatest_up_to-push (x ∷ xs) number at = elim (cases_Bool (nat_le x at)) [
  | inl first ↦ elim (cases_Bool (nat_le number at)) [
    | inl before ↦ rw (first, greatest_up_to-push xs number at, before) (omega arith)
    | inr later ↦ rw (first, greatest_up_to-push xs number at, later) refl
  ]
  | inr past ↦ rw (past, greatest_up_to-push xs number at) refl
]

pub greatest_up_to-more : (numbers : List ℕ) (i at : ℕ) → i < length numbers
    → greatest_up_to (take (i + 1) numbers) at ≡ (if nat_le (slice_index numbers i) at then max (greatest_up_to (take i numbers) at) (slice_index numbers i) else greatest_up_to (take i numbers) at)
greatest_up_to-more numbers i at within = ap (λ l. greatest_up_to l at) (take_more numbers i 0 within) ∙ greatest_up_to-push (take i numbers) (slice_index numbers i) at

-- the samples of a book's checkpoints are those of the table's
pub samples_after : {S : Type 0} (pool : List Slot) (before : List ℕ) (checkpoints : List (LiveCheckpoint S)) → map (λ checkpoint. checkpoint.sample) (checkpoints_after pool before checkpoints) ≡ map (λ checkpoint. checkpoint.sample) checkpoints
samples_after pool before [] = refl
samples_after pool before (checkpoint ∷ checkpoints) = ap (λ rest. checkpoint.sample ∷ rest) (samples_after pool checkpoint.pages checkpoints)

-- whether one stands at a sample
pub stands_after : {S : Type 0} (pool : List Slot) (before : List ℕ) (checkpoints : List (LiveCheckpoint S)) (sample : ℕ) → stands_at (checkpoints_after pool before checkpoints) sample ≡ list_any (λ checkpoint. checkpoint.sample == sample) checkpoints
stands_after pool before [] sample = refl
stands_after pool before (checkpoint ∷ checkpoints) sample = ap (λ b. checkpoint.sample == sample || b) (stands_after pool checkpoint.pages checkpoints sample)

pub length-samples : {S : Type 0} (table : TableState S) → length (samples_of table) ≡ length table.checkpoints
length-samples table = length-map table.checkpoints (λ checkpoint. checkpoint.sample)

-- what is read of a live checkpoint
pub sample_read : {S : Type 0} (checkpoints : List (LiveCheckpoint S)) (i : ℕ) (checkpoint : LiveCheckpoint S) → i < length (map (λ checkpoint. checkpoint.sample) checkpoints) → checkpoint ≡ get_or checkpoints i checkpoint → checkpoint.sample ≡ slice_index (map (λ checkpoint. checkpoint.sample) checkpoints) i
sample_read checkpoints i checkpoint within read =
    let here : i < length checkpoints = omega (arith, length-map checkpoints (λ checkpoint. checkpoint.sample)) in
    sym (get_or-map (λ checkpoint. checkpoint.sample) checkpoints i checkpoint 0 here ∙ ap (λ checkpoint. checkpoint.sample) (sym read))

-- a step of the search for the last one at or before a sample
pub nearest_taken : (samples : List ℕ) (i n at : ℕ) → i < length samples → slice_index samples n ≡ greatest_up_to (take i samples) at → slice_index samples i ≤ at → slice_index samples n < slice_index samples i
    → slice_index samples i ≡ greatest_up_to (take (i + 1) samples) at
nearest_taken samples i n at within before few later =
    let test : nat_le (slice_index samples i) at ≡ true = grind (arith, nat_tests) in
    sym (greatest_up_to-more samples i at within ∙ rw test (omega (arith, before)))

pub nearest_kept : (samples : List ℕ) (i n at : ℕ) → i < length samples → slice_index samples n ≡ greatest_up_to (take i samples) at → slice_index samples i ≤ slice_index samples n
    → slice_index samples n ≡ greatest_up_to (take (i + 1) samples) at
nearest_kept samples i n at within before older = elim (cases_Bool (nat_le (slice_index samples i) at)) [
  | inl few ↦ sym (greatest_up_to-more samples i at within ∙ rw few (omega (arith, before)))
  | inr past ↦ sym (greatest_up_to-more samples i at within ∙ rw past (sym before))
]

pub nearest_passed : (samples : List ℕ) (i n at : ℕ) → i < length samples → slice_index samples n ≡ greatest_up_to (take i samples) at → at < slice_index samples i
    → slice_index samples n ≡ greatest_up_to (take (i + 1) samples) at
nearest_passed samples i n at within before past =
    let test : nat_le (slice_index samples i) at ≡ false = grind (arith, nat_tests) in
    sym (greatest_up_to-more samples i at within ∙ rw test (sym before))

pub nearest_begun : {S : Type 0} (pool : List Slot) (checkpoints : List (LiveCheckpoint S)) (at : ℕ) → BeginAtOpening (saved_checkpoints pool checkpoints)
    → (0 < length (map (λ checkpoint. checkpoint.sample) checkpoints)) × (slice_index (map (λ checkpoint. checkpoint.sample) checkpoints) 0 ≡ greatest_up_to (take 1 (map (λ checkpoint. checkpoint.sample) checkpoints)) at)
nearest_begun pool [] at begin = absurd begin
nearest_begun pool (checkpoint ∷ checkpoints) at begin = (
  omega arith,
  elim (cases_Bool (nat_le checkpoint.sample at)) [
    | inl few ↦ rw few (omega arith)
    | inr past ↦ rw past begin
  ],
)

-- The table's first checkpoint that was taken at a sample, and the book's there.
pub record IsFirstAt {S : Type 0} (pool : List Slot) (before : List ℕ) (checkpoints : List (LiveCheckpoint S)) (sample i : ℕ) : Type 0 where
  pub here : i < length checkpoints → slice_index (map (λ checkpoint. checkpoint.sample) checkpoints) i ≡ sample
  pub live : i < length checkpoints → without_entry (checkpoints_after pool before checkpoints) i ≡ without_checkpoint (checkpoints_after pool before checkpoints) sample
  pub stands : i < length checkpoints → stands_at (checkpoints_after pool before checkpoints) sample ≡ true
  pub none : length checkpoints ≤ i → stands_at (checkpoints_after pool before checkpoints) sample ≡ false

is_first_at : {S : Type 0} (pool : List Slot) (before : List ℕ) (checkpoints : List (LiveCheckpoint S)) (sample : ℕ) → IsFirstAt pool before checkpoints sample (position_or_len (λ checkpoint. checkpoint.sample == sample) checkpoints)
is_first_at pool before [] sample = record { here = λ within. absurd (omega arith); live = λ within. absurd (omega arith); stands = λ within. absurd (omega arith); none = λ past. refl }
is_first_at pool before (x ∷ xs) sample = elim (cases_Bool (x.sample == sample)) [
  | inl here ↦ let is : x.sample ≡ sample = grind (arith, nat_tests, here) in rw here record {
    here = λ within. is;
    live = λ within. rw here refl;
    stands = λ within. rw here refl;
    none = λ past. absurd (omega (arith, past));
  }
  | inr other ↦
      let rest = is_first_at pool x.pages xs sample in
      let next : position_or_len (λ checkpoint. checkpoint.sample == sample) (x ∷ xs) ≡ suc (position_or_len (λ checkpoint. checkpoint.sample == sample) xs) = rw other (omega arith) in
      subst (λ i. IsFirstAt pool before (x ∷ xs) sample i) (sym next) record {
        here = λ within. rest.here (omega (arith, within));
        live = λ within. rw other (ap (λ l. record { sample = x.sample; pages = pages_in pool x.pages; shared = by_places nat_eq x.pages before } ∷ l) (rest.live (omega (arith, within))));
        stands = λ within. rw other (rest.stands (omega (arith, within)));
        none = λ past. rw other (rest.none (omega (arith, past)));
      }
]

found_at : {S : Type 0} (pool : List Slot) (checkpoints : List (LiveCheckpoint S)) (sample i : ℕ) → position (λ checkpoint. checkpoint.sample == sample) checkpoints ≡ Some i → (i < length checkpoints) × IsFirstAt pool [] checkpoints sample i
found_at pool checkpoints sample i found = elim (cases_Bool (nat_lt (position_or_len (λ checkpoint. checkpoint.sample == sample) checkpoints) (length checkpoints))) [
  | inl within ↦
      let is : Some (position_or_len (λ checkpoint. checkpoint.sample == sample) checkpoints) ≡ Some i = rw within at found in
      let same : position_or_len (λ checkpoint. checkpoint.sample == sample) checkpoints ≡ i = cc in
      rw (← same) (grind (arith, nat_tests, within), is_first_at pool [] checkpoints sample)
  | inr past ↦ let none : None ≡ Some i = rw past at found in cc
]

found_none : {S : Type 0} (pool : List Slot) (checkpoints : List (LiveCheckpoint S)) (sample : ℕ) → position (λ checkpoint. checkpoint.sample == sample) checkpoints ≡ None → stands_at (checkpoints_after pool [] checkpoints) sample ≡ false
found_none pool checkpoints sample found = elim (cases_Bool (nat_lt (position_or_len (λ checkpoint. checkpoint.sample == sample) checkpoints) (length checkpoints))) [
  | inl within ↦ let some : Some (position_or_len (λ checkpoint. checkpoint.sample == sample) checkpoints) ≡ None = rw within at found in cc
  | inr past ↦ (is_first_at pool [] checkpoints sample).none (grind (arith, nat_tests, past))
]

-- What a search for the first checkpoint at a sample finds.
pub record Finds {S : Type 0} (table : TableState S) (sample : ℕ) (found : Option ℕ) : Type 0 where
  pub here : IfSome found (λ place. slice_index (samples_of table) place ≡ sample)
  pub live : IfSome found (λ place. without_entry (live_checkpoints table) place ≡ without_checkpoint (live_checkpoints table) sample)
  pub none : IsNone found ↔ (stands_at (live_checkpoints table) sample ≡ false)

pub finds : {S : Type 0} (table : TableState S) (sample : ℕ) (found : Option ℕ) → found ≡ position (λ checkpoint. checkpoint.sample == sample) table.checkpoints → Finds table sample found
finds table sample None is = record { here = tt; live = tt; none = (λ none. found_none table.pool table.checkpoints sample (sym is), λ not_there. refl) }
finds table sample (Some i) is =
    let at = found_at table.pool table.checkpoints sample i (sym is) in
    record {
      here = at.1.here at.0;
      live = at.1.live at.0;
      none = (λ none. cc, λ not_there. let both : true ≡ false = sym (at.1.stands at.0) ∙ not_there in cc);
    }
