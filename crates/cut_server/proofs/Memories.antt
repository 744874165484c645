-- The pages of a memory in the slots of a pool.
use Rattle.std.proofs.Common.{◌≡◌, ℕ, zero, suc, ◌+◌, ◌*◌, ◌<◌, ◌≤◌, true, nat_eq, List, [], ◌∷◌, ◌++◌, length, map, take, drop, get_or, refl, sym, ap, ◌∙◌, arith, Some, length-append, length-drop}
use Rattle.std.specs.Prelude.{slice_index}
use Rattle.std.specs.List.{slice_get, count_by}
use Rattle.std.proofs.lemmas.List.{length-take-le, take_at, take_all, take_more, flat_map_more, get_or_default, get_or-map, length-map}
use Rattle.std.proofs.lemmas.List.Sums.{get_or-le-sum_by}
use Rattle.std.proofs.lemmas.Bool.Decides.{nat_tests}
use Rattle.aram_core.specs.Memory.{with_page}
use Rattle.page_pool.specs.declared.slot.Slot.{Slot}
use Rattle.page_pool.specs.Pool.{slot_at}
use Rattle.page_pool.proofs.Links.{one_if}
use Rattle.cut_server.specs.declared.table.LiveCheckpoint.{LiveCheckpoint}
use Rattle.cut_server.specs.Table.{Saved, saved_checkpoint, saved_checkpoints, memory_in, times_named, AreWhole, AreKeptIn}

-- a page put after those that are there
pub length-with_page : (memory : List ℕ) (p : ℕ) (bytes : List ℕ) → length memory ≡ 0x10000 → p < 256 → length bytes ≡ 256 → length (with_page memory p bytes) ≡ 0x10000
length-with_page memory p bytes long within size =
    omega (arith, length-append (take (256 * p) memory ++ bytes) (drop (256 * p + 256) memory), length-append (take (256 * p) memory) bytes, length-take-le (256 * p) memory (omega arith), length-drop (256 * p + 256) memory)

take-with_page : (memory : List ℕ) (p : ℕ) (bytes : List ℕ) → length memory ≡ 0x10000 → p < 256 → length bytes ≡ 256 → take (256 * (p + 1)) (with_page memory p bytes) ≡ take (256 * p) memory ++ bytes
take-with_page memory p bytes long within size =
    take_at (take (256 * p) memory ++ bytes) (drop (256 * p + 256) memory) (256 * (p + 1)) (omega (arith, length-append (take (256 * p) memory) bytes, length-take-le (256 * p) memory (omega arith)))

-- the pages of slots, one more
memory_in-more : (pool : List Slot) (pages : List ℕ) (p : ℕ) → p < length pages → memory_in pool (take (p + 1) pages) ≡ memory_in pool (take p pages) ++ (slot_at pool (get_or pages p 0)).bytes
memory_in-more pool pages p within = ap (memory_in pool) (take_more pages p 0 within) ∙ sym (flat_map_more (λ slot. (slot_at pool slot).bytes) [] (take p pages) (get_or pages p 0))

pub loaded_more : (pool : List Slot) (pages : List ℕ) (memory : List ℕ) (p d : ℕ) (bytes : List ℕ) → length pages ≡ 256 → p < 256 → length memory ≡ 0x10000 → bytes ≡ (slot_at pool (get_or pages p d)).bytes
    → length bytes ≡ 256 → take (256 * p) memory ≡ memory_in pool (take p pages) → take (256 * (p + 1)) (with_page memory p bytes) ≡ memory_in pool (take (p + 1) pages)
loaded_more pool pages memory p d bytes whole within long holds size before =
    let inside : p < length pages = omega arith in
    take-with_page memory p bytes long within size ∙ rw (before, holds, get_or_default pages p d 0 inside) (sym (memory_in-more pool pages p inside))

pub loaded_all : (pool : List Slot) (pages : List ℕ) (memory : List ℕ) → length pages ≡ 256 → length memory ≡ 0x10000 → take 65536 memory ≡ memory_in pool (take 256 pages) → memory ≡ memory_in pool pages
loaded_all pool pages memory whole long same = sym (take_all 65536 memory (omega arith)) ∙ same ∙ ap (memory_in pool) (take_all 256 pages (omega arith))

-- what was saved at a place
pub saved_read : {S : Type 0} (pool : List Slot) (checkpoints : List (LiveCheckpoint S)) (i : ℕ) (checkpoint : LiveCheckpoint S) → i < length checkpoints → checkpoint ≡ get_or checkpoints i checkpoint → slice_get (saved_checkpoints pool checkpoints) i ≡ Some (saved_checkpoint pool checkpoint)
saved_read pool [] i checkpoint within read = absurd (omega arith)
saved_read pool (x ∷ xs) zero checkpoint within read = ap (λ m. Some (saved_checkpoint pool m)) (sym read)
saved_read pool (x ∷ xs) (suc i) checkpoint within read = saved_read pool xs i checkpoint (omega arith) read

pub whole_read : {S : Type 0} (checkpoints : List (LiveCheckpoint S)) (i : ℕ) (checkpoint : LiveCheckpoint S) → AreWhole checkpoints → i < length checkpoints → checkpoint ≡ get_or checkpoints i checkpoint → length checkpoint.pages ≡ 256
whole_read [] i checkpoint whole within read = absurd (omega arith)
whole_read (x ∷ xs) zero checkpoint whole within read = ap (λ m. length m.pages) read ∙ whole.0
whole_read (x ∷ xs) (suc i) checkpoint whole within read = whole_read xs i checkpoint whole.1 (omega arith) read

-- a page of a live checkpoint has an owner
named_once : (pages : List ℕ) (p d : ℕ) → p < length pages → 1 ≤ count_by (nat_eq (get_or pages p d)) pages
named_once pages p d within =
    let page = get_or pages p d in
    let same : nat_eq page (get_or pages p d) ≡ true = grind (arith, nat_tests) in
    let one : one_if (nat_eq page (get_or pages p d)) ≡ 1 = rw same refl in
    omega (arith, one, get_or-le-sum_by (λ x. one_if (nat_eq page x)) pages p d within)

pub owned_page : {S : Type 0} {pool : List Slot} {checkpoints : List (LiveCheckpoint S)} → AreKeptIn pool checkpoints → (i : ℕ) (checkpoint : LiveCheckpoint S) → i < length checkpoints → checkpoint ≡ get_or checkpoints i checkpoint → (p d : ℕ) → p < 256
    → 0 < (slot_at pool (get_or checkpoint.pages p d)).owners
owned_page {pool = pool} {checkpoints} kept i checkpoint within read p d inside =
    let whole : length checkpoint.pages ≡ 256 = whole_read checkpoints i checkpoint kept.whole within read in
    let page = get_or checkpoint.pages p d in
    let once : 1 ≤ count_by (nat_eq page) checkpoint.pages = named_once checkpoint.pages p d (omega arith) in
    let all : count_by (nat_eq page) (get_or checkpoints i checkpoint).pages ≤ times_named checkpoints page = get_or-le-sum_by (λ m. count_by (nat_eq page) m.pages) checkpoints i checkpoint within in
    omega (arith, once, all, ap (λ m. count_by (nat_eq page) m.pages) read, kept.owners page)

pub within_checkpoints : {S : Type 0} (checkpoints : List (LiveCheckpoint S)) (i : ℕ) → i < length (map (λ checkpoint. checkpoint.sample) checkpoints) → i < length checkpoints
within_checkpoints checkpoints i within = omega (arith, within, length-map checkpoints (λ checkpoint. checkpoint.sample))

-- a live checkpoint whose pages hold a memory
pub saved_here : {S : Type 0} {pool : List Slot} {checkpoints : List (LiveCheckpoint S)} → AreKeptIn pool checkpoints → (i : ℕ) (checkpoint : LiveCheckpoint S) (memory : List ℕ) → i < length checkpoints → checkpoint ≡ get_or checkpoints i checkpoint → length memory ≡ 0x10000
    → take 65536 memory ≡ memory_in pool (take 256 checkpoint.pages)
    → slice_get (saved_checkpoints pool checkpoints) i ≡ Some (record { sample = slice_index (map (λ checkpoint. checkpoint.sample) checkpoints) i; state = checkpoint.state; memory = memory })
saved_here {S = S} {pool} {checkpoints} kept i checkpoint memory within read long same =
    let held : memory ≡ memory_in pool checkpoint.pages = loaded_all pool checkpoint.pages memory (whole_read checkpoints i checkpoint kept.whole within read) long same in
    let sample : checkpoint.sample ≡ slice_index (map (λ checkpoint. checkpoint.sample) checkpoints) i = sym (get_or-map (λ checkpoint. checkpoint.sample) checkpoints i checkpoint 0 within ∙ ap (λ m. m.sample) (sym read)) in
    let make : ℕ → List ℕ → Saved S = λ s m. record { sample = s; state = checkpoint.state; memory = m } in
    saved_read pool checkpoints i checkpoint within read ∙ ap (λ s. Some (make s (memory_in pool checkpoint.pages))) sample ∙ ap (λ m. Some (make (slice_index (map (λ checkpoint. checkpoint.sample) checkpoints) i) m)) (sym held)
