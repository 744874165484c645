-- Which pages a memory shares with the newest checkpoint.
use Rattle.std.proofs.Common.{◌≡◌, ℕ, zero, suc, ◌+◌, ◌-◌, ◌<◌, ◌≤◌, Bool, false, not, List, [], ◌∷◌, ◌*◌, ◌++◌, length, map, take, drop, get_or, refl, sym, ap, ◌∙◌, arith, Some}
use Rattle.std.specs.List.{slice_get, count_by, flat_map, range_with_len}
use Rattle.std.specs.Str.{bytes_eq}
use Rattle.std.proofs.lemmas.List.{length-map, get_or-map, take_all, drop-drop}
use Rattle.std.proofs.Math.Seq.{take-add}
use Rattle.std.proofs.lemmas.List.FromFn.{length-map-range_with_len, get_or-map-range_with_len}
use Rattle.std.proofs.lemmas.Option.{get_or_from_slice_get}
use Rattle.std.proofs.lemmas.List.Sums.{sum_by_more}
use Rattle.aram_core.specs.Memory.{page_bytes}
use Rattle.page_pool.specs.declared.slot.Slot.{Slot}
use Rattle.page_pool.specs.Pool.{slot_at}
use Rattle.page_pool.proofs.Links.{one_if}
use Rattle.cut_server.specs.declared.table.LiveCheckpoint.{LiveCheckpoint}
use Rattle.cut_form.specs.Checkpoints.{Checkpoint, pages_of, by_places, shared_with_newest}
use Rattle.cut_server.specs.Table.{pages_in, memory_in, checkpoints_after}
use Rattle.cut_server.specs.Placing.{shared_slots}

pub length-pages_of : (memory : List ℕ) → length (pages_of memory) ≡ 256
unfolding pages_of
length-pages_of memory = length-map-range_with_len (page_bytes memory) 0 256

pub get_or-pages_of : (memory : List ℕ) (p : ℕ) → p < 256 → get_or (pages_of memory) p [] ≡ page_bytes memory p
unfolding pages_of
get_or-pages_of memory p within = get_or-map-range_with_len (page_bytes memory) 0 256 p p [] within (omega arith)

pub length-by_places : {A : Type 0} (test : A → A → Bool) (xs ys : List A) → length (by_places test xs ys) ≡ length xs
length-by_places test [] ys = refl
length-by_places test (x ∷ xs) [] = ap (λ n. suc n) (length-by_places test xs [])
length-by_places test (x ∷ xs) (y ∷ ys) = ap (λ n. suc n) (length-by_places test xs ys)

pub slice_get-by_places : {A : Type 0} (test : A → A → Bool) (xs ys : List A) (p : ℕ) (d e : A) → p < length xs → p < length ys → slice_get (by_places test xs ys) p ≡ Some (test (get_or xs p d) (get_or ys p e))
slice_get-by_places test [] ys p d e within inside = absurd (omega arith)
slice_get-by_places test (x ∷ xs) [] p d e within inside = absurd (omega arith)
slice_get-by_places test (x ∷ xs) (y ∷ ys) zero d e within inside = refl
slice_get-by_places test (x ∷ xs) (y ∷ ys) (suc p) d e within inside = slice_get-by_places test xs ys p d e (omega arith) (omega arith)

-- with no checkpoint no page is shared
slice_get-none : (pages : List (List ℕ)) (p : ℕ) → p < length pages → slice_get (map (λ page. false) pages) p ≡ Some false
slice_get-none [] p within = absurd (omega arith)
slice_get-none (x ∷ xs) zero within = refl
slice_get-none (x ∷ xs) (suc p) within = slice_get-none xs p (omega arith)

pub length-shared : (live : List Checkpoint) (pages : List (List ℕ)) → length (shared_with_newest live pages) ≡ length pages
length-shared [] pages = length-map pages (λ page. false)
length-shared (x ∷ []) pages = length-by_places bytes_eq pages x.pages
length-shared (x ∷ (y ∷ rest)) pages = length-shared (y ∷ rest) pages

-- the newest is the last one
pub shared_newest : {S : Type 0} (pool : List Slot) (before : List ℕ) (checkpoints : List (LiveCheckpoint S)) (i : ℕ) (checkpoint : LiveCheckpoint S) (pages : List (List ℕ)) → length checkpoints ≡ suc i → checkpoint ≡ get_or checkpoints i checkpoint
    → shared_with_newest (checkpoints_after pool before checkpoints) pages ≡ by_places bytes_eq pages (pages_in pool checkpoint.pages)
shared_newest pool before [] i checkpoint pages long read = absurd (omega arith)
shared_newest pool before (x ∷ []) zero checkpoint pages long read = ap (λ m. by_places bytes_eq pages (pages_in pool m.pages)) (sym read)
shared_newest pool before (x ∷ []) (suc i) checkpoint pages long read = absurd (omega arith)
shared_newest pool before (x ∷ (y ∷ rest)) zero checkpoint pages long read = absurd (omega arith)
shared_newest pool before (x ∷ (y ∷ rest)) (suc i) checkpoint pages long read = shared_newest pool x.pages (y ∷ rest) i checkpoint pages (omega arith) read

-- a page of a memory against that of the newest
pub shared_at : {S : Type 0} (pool : List Slot) (checkpoints : List (LiveCheckpoint S)) (checkpoint : LiveCheckpoint S) (memory : List ℕ) (p d : ℕ) → 0 < length checkpoints → checkpoint ≡ get_or checkpoints (length checkpoints - 1) checkpoint → length checkpoint.pages ≡ 256 → p < 256
    → slice_get (shared_with_newest (checkpoints_after pool [] checkpoints) (pages_of memory)) p ≡ Some (bytes_eq (page_bytes memory p) (slot_at pool (get_or checkpoint.pages p d)).bytes)
shared_at pool checkpoints checkpoint memory p d some read whole within =
    let inside : p < length (pages_in pool checkpoint.pages) = omega (arith, length-map checkpoint.pages (λ slot. (slot_at pool slot).bytes)) in
    let bytes : get_or (pages_in pool checkpoint.pages) p [] ≡ (slot_at pool (get_or checkpoint.pages p d)).bytes = get_or-map (λ slot. (slot_at pool slot).bytes) checkpoint.pages p d [] (omega arith) in
    rw (shared_newest pool [] checkpoints (length checkpoints - 1) checkpoint (pages_of memory) (omega arith) read)
    (slice_get-by_places bytes_eq (pages_of memory) (pages_in pool checkpoint.pages) p [] [] (omega (arith, length-pages_of memory)) inside ∙ rw (get_or-pages_of memory p within, bytes) refl)

pub shared_none : {S : Type 0} (pool : List Slot) (checkpoints : List (LiveCheckpoint S)) (memory : List ℕ) (p : ℕ) → length checkpoints ≤ 0 → p < 256 → slice_get (shared_with_newest (checkpoints_after pool [] checkpoints) (pages_of memory)) p ≡ Some false
shared_none pool [] memory p none within = slice_get-none (pages_of memory) p (omega (arith, length-pages_of memory))
shared_none pool (x ∷ xs) memory p none within = absurd (omega arith)

-- a step of the count
pub own_more : (shared : List Bool) (p : ℕ) (here : Bool) → p < length shared → Some here ≡ slice_get shared p → count_by not (take (p + 1) shared) ≡ count_by not (take p shared) + one_if (not here)
own_more shared p here within is =
    let read : get_or shared p false ≡ here = get_or_from_slice_get shared p here false (sym is) in
    sum_by_more (λ b. one_if (not b)) shared p false within ∙ ap (λ b. count_by not (take p shared) + one_if (not b)) read

slice_get-by_places_past : {A : Type 0} (test : A → A → Bool) (xs ys : List A) (p : ℕ) → p < length xs → length ys ≤ p → slice_get (by_places test xs ys) p ≡ Some false
slice_get-by_places_past test [] ys p within past = absurd (omega arith)
slice_get-by_places_past test (x ∷ xs) [] zero within past = refl
slice_get-by_places_past test (x ∷ xs) [] (suc p) within past = slice_get-by_places_past test xs [] p (omega arith) (omega arith)
slice_get-by_places_past test (x ∷ xs) (y ∷ ys) zero within past = absurd (omega arith)
slice_get-by_places_past test (x ∷ xs) (y ∷ ys) (suc p) within past = slice_get-by_places_past test xs ys p (omega arith) (omega arith)

pub slot_unshared : (pool : List Slot) (newest : List ℕ) (memory : List ℕ) (p : ℕ) → length newest ≤ p → p < 256 → slice_get (shared_slots pool newest (pages_of memory)) p ≡ Some false
slot_unshared pool newest memory p past within =
    slice_get-by_places_past bytes_eq (pages_of memory) (pages_in pool newest) p (omega (arith, length-pages_of memory)) (omega (arith, length-map newest (λ slot. (slot_at pool slot).bytes)))

-- the pages of a memory, joined
joined : {X A : Type 0} (f : X → List A) (xs : List X) → flat_map f xs ≡ flat_map (λ (piece : List A). piece) (map f xs)
joined f [] = refl
joined f (x ∷ xs) = ap (λ rest. f x ++ rest) (joined f xs)

pages_joined : (memory : List ℕ) (n a : ℕ) → flat_map (page_bytes memory) (range_with_len a n) ≡ take (256 * n) (drop (256 * a) memory)
pages_joined memory zero a = refl
pages_joined memory (suc n) a =
    let size : 256 * suc n ≡ 256 + 256 * n = omega arith in
    let next : 256 * (a + 1) ≡ 256 * a + 256 = omega arith in
    ap (λ rest. page_bytes memory a ++ rest) (pages_joined memory n (a + 1) ∙ ap (λ k. take (256 * n) (drop k memory)) next ∙ ap (λ l. take (256 * n) l) (sym (drop-drop 256 (256 * a) memory)))
    ∙ sym (ap (λ k. take k (drop (256 * a) memory)) size ∙ take-add 256 (256 * n) (drop (256 * a) memory))

pub memory_of_pages : (pool : List Slot) (slots : List ℕ) (memory : List ℕ) → length memory ≡ 0x10000 → pages_in pool slots ≡ pages_of memory → memory_in pool slots ≡ memory
unfolding pages_of
memory_of_pages pool slots memory long same =
    joined (λ slot. (slot_at pool slot).bytes) slots ∙ ap (λ l. flat_map (λ (piece : List ℕ). piece) l) same ∙ sym (joined (page_bytes memory) (range_with_len 0 256)) ∙ pages_joined memory 256 0 ∙ take_all 65536 memory (omega arith)
