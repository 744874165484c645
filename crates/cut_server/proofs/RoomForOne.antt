-- Room for one more checkpoint, which others are given up for.
use Rattle.std.proofs.Common.{◌≡◌, ℕ, zero, suc, ◌+◌, ◌-◌, ◌<◌, ◌≤◌, false, ◌==◌, List, [], ◌∷◌, length, drop, refl, sym, ap, ◌∙◌, arith, inl, inr}
use Rattle.std.specs.List.{remove, remove_range}
use Rattle.std.proofs.lemmas.List.{drop-drop}
use Rattle.std.proofs.lemmas.Bool.{cases_Bool, or_parts}
use Rattle.cut_form.specs.Checkpoints.{Checkpoint, next_to_dropped, without_entry, has_room_for_one, stands_at}
use Rattle.cut_form.specs.Marks.{Remaining, room_made}
use Rattle.cut_server.specs.Table.{TableState, saved_of, live_checkpoints}

-- dropping keeps the number of those after the first
length-next_to_dropped : (dropped : Checkpoint) (live : List Checkpoint) → length (next_to_dropped dropped live) ≡ length live
length-next_to_dropped dropped [] = refl
length-next_to_dropped dropped (next ∷ rest) = refl

pub length-without_entry : (live : List Checkpoint) (i : ℕ) → i < length live → length (without_entry live i) + 1 ≡ length live
length-without_entry [] i within = absurd (omega arith)
length-without_entry (x ∷ xs) zero within = omega (arith, length-next_to_dropped x xs)
length-without_entry (x ∷ xs) (suc i) within = omega (arith, length-without_entry xs i (omega arith))

-- one more is given up
pub room_less : (slots : ℕ) (pages : List (List ℕ)) (live : List Checkpoint) (gave : ℕ) → 1 < length live → has_room_for_one slots pages live ≡ false
    → room_made (length live - 1) slots pages (record { live = live; gave = gave }) ≡ room_made (length (without_entry live 1) - 1) slots pages (record { live = without_entry live 1; gave = gave + 1 })
room_less slots pages [] gave more none = absurd (omega arith)
room_less slots pages (x ∷ []) gave more none = absurd (omega arith)
room_less slots pages (x ∷ (y ∷ rest)) gave more none =
    let live = x ∷ (y ∷ rest) in
    let most : length live - 1 ≡ suc (length rest) = omega arith in
    let next : length (without_entry live 1) - 1 ≡ length rest = omega (arith, length-without_entry live 1 (omega arith)) in
    ap (λ n. room_made n slots pages (record { live = live; gave = gave })) most ∙ rw none refl ∙ ap (λ n. room_made n slots pages (record { live = without_entry live 1; gave = gave + 1 })) (sym next)

drop_none : {A : Type 0} (n : ℕ) → drop {A = A} n [] ≡ []
drop_none zero = refl
drop_none (suc n) = refl

pub saved_less : {A : Type 0} (xs : List A) (n : ℕ) → remove (remove_range xs 1 (n + 1)) 1 ≡ remove_range xs 1 (n + 1 + 1)
saved_less {A = A} [] n = let none = drop_none {A = A} (n + 1) in let gone = drop_none {A = A} (n + 1 + 1) in rw (none, gone) refl
saved_less (x ∷ xs) n =
    let one : n + 1 ≡ suc n = omega arith in
    let two : n + 1 + 1 ≡ suc (n + 1) = omega arith in
    ap (λ k. x ∷ drop 1 (drop k (x ∷ xs))) one ∙ ap (λ rest. x ∷ rest) (drop-drop 1 n xs) ∙ ap (λ k. x ∷ drop k (x ∷ xs)) (sym two)

-- Others were given up so far, as a mark does it, of so many that were live.
pub record MakesRoom {S : Type 0} (pages : List (List ℕ)) (before : ℕ) (old new : TableState S) : Type 0 where
  pub count : before ≡ length (live_checkpoints old)
  pub fewer : length (live_checkpoints new) ≤ before
  pub saved : saved_of new ≡ remove_range (saved_of old) 1 (before - length (live_checkpoints new) + 1)
  pub room : room_made (length (live_checkpoints new) - 1) (length old.pool) pages (record { live = live_checkpoints new; gave = before - length (live_checkpoints new) })
      ≡ room_made (length (live_checkpoints old) - 1) (length old.pool) pages (record { live = live_checkpoints old; gave = 0 })
  pub size : length new.pool ≡ length old.pool

pub makes_more : {S : Type 0} {pages : List (List ℕ)} {before : ℕ} {old mid : TableState S} → MakesRoom pages before old mid → (new : TableState S) → 1 < length (live_checkpoints mid) → has_room_for_one (length mid.pool) pages (live_checkpoints mid) ≡ false
    → saved_of new ≡ remove (saved_of mid) 1 → live_checkpoints new ≡ without_entry (live_checkpoints mid) 1 → length new.pool ≡ length mid.pool → MakesRoom pages before old new
makes_more {pages = pages} {before} {old} {mid} makes new more none saved live size =
    let gave = before - length (live_checkpoints mid) in
    let fewer : length (live_checkpoints new) + 1 ≡ length (live_checkpoints mid) = omega (arith, ap length live, length-without_entry (live_checkpoints mid) 1 more) in
    let next : before - length (live_checkpoints new) ≡ gave + 1 = omega (arith, fewer, makes.fewer) in
    let room_of : List Checkpoint → ℕ → Remaining = λ live gave. room_made (length live - 1) (length old.pool) pages (record { live = live; gave = gave }) in
    record {
      count = makes.count;
      fewer = omega (arith, fewer, makes.fewer);
      saved = saved ∙ ap (λ l. remove l 1) makes.saved ∙ saved_less (saved_of old) gave ∙ ap (λ n. remove_range (saved_of old) 1 (n + 1)) (sym next);
      room = ap (λ n. room_of (live_checkpoints new) n) next ∙ ap (λ l. room_of l (gave + 1)) live ∙ sym (room_less (length old.pool) pages (live_checkpoints mid) gave more (rw (← makes.size) none)) ∙ makes.room;
      size = size ∙ makes.size;
    }

-- where none stood at a sample, none does once others are given up
stands_in_next : (dropped : Checkpoint) (live : List Checkpoint) (sample : ℕ) → stands_at (next_to_dropped dropped live) sample ≡ stands_at live sample
stands_in_next dropped [] sample = refl
stands_in_next dropped (next ∷ rest) sample = refl

none_without : (live : List Checkpoint) (i sample : ℕ) → stands_at live sample ≡ false → stands_at (without_entry live i) sample ≡ false
none_without [] i sample none = refl
none_without (x ∷ xs) zero sample none = stands_in_next x xs sample ∙ (or_parts (x.sample == sample) (stands_at xs sample) none).1
none_without (x ∷ xs) (suc i) sample none =
    let parts = or_parts (x.sample == sample) (stands_at xs sample) none in
    let rest : stands_at (without_entry xs i) sample ≡ false = none_without xs i sample parts.1 in
    rw (parts.0, rest) refl

none_in_room : (most slots : ℕ) (pages : List (List ℕ)) (live : List Checkpoint) (gave sample : ℕ) → stands_at live sample ≡ false → stands_at (room_made most slots pages (record { live = live; gave = gave })).live sample ≡ false
none_in_room zero slots pages live gave sample none = none
none_in_room (suc most) slots pages live gave sample none = elim (cases_Bool (has_room_for_one slots pages live)) [
  | inl room ↦ rw room none
  | inr full ↦ rw full (none_in_room most slots pages (without_entry live 1) (gave + 1) sample (none_without live 1 sample none))
]

pub none_left : (most slots : ℕ) (pages : List (List ℕ)) (live : List Checkpoint) (gave sample : ℕ) (room : Remaining) → room ≡ room_made most slots pages (record { live = live; gave = gave }) → stands_at live sample ≡ false
    → stands_at room.live sample ≡ false
none_left most slots pages live gave sample room is none = rw is (none_in_room most slots pages live gave sample none)
