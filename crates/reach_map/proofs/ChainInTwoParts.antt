-- A chain in two parts: its pages are those of the blocks from its start up to the first end, and those of the blocks from its loop word up to
-- the first end there.
use Rattle.std.proofs.Common.{◌≡◌, ℕ, zero, suc, ◌+◌, ◌-◌, ◌*◌, ◌%◌, ◌<◌, ◌≤◌, List, ◌∷◌, ◌++◌, map, flat_map, Bool, true, false, ◌||◌, ◌==◌, refl, sym, ap, ◌∙◌, arith, append_assoc}
use Rattle.std.specs.Prelude.{if◌then◌else◌}
use Rattle.std.specs.List.{range_with_len}
use Rattle.std.proofs.lemmas.Bool.{or_parts}
use Rattle.std.proofs.lemmas.List.{append-nil}
use Rattle.std.proofs.lemmas.List.Folds.{list_any-append}
use Rattle.aram_core.specs.Memory.{byte_at}
use Rattle.aram_core.specs.Pages.{Pages, page_of, has_page}
use Rattle.brr_decode.specs.Header.{has_end}
use Rattle.reach_map.specs.Added.{with_pages}
use Rattle.reach_map.specs.Reach.{block_pages, chain, pages_of_bytes}
use Rattle.reach_map.specs.BlocksToEnd.{blocks_to_end}
use Rattle.reach_map.proofs.Added.{with_pages-same, with_pages-append}
use Rattle.reach_map.proofs.EveryPage.{fail_together, has_none, none_of}

-- a list by a function of the index, in two parts
two_parts : (f : ℕ → ℕ) (a n m all next : ℕ) → n + m ≡ all → a + n ≡ next
    → map f (range_with_len a all) ≡ map f (range_with_len a n) ++ map f (range_with_len next m)
two_parts f a zero m all next sum goes_on =
    (λ i. map f (range_with_len (first i) (whole i)))
  where
    first : a ≡ next
    first = omega (arith, goes_on)

    whole : all ≡ m
    whole = omega (arith, sum)
two_parts f a (suc n) m zero next sum goes_on = absurd (omega arith)
two_parts f a (suc n) m (suc all) next sum goes_on = ap (λ rest. f a ∷ rest) (two_parts f (a + 1) n m all next (omega arith) (omega arith))

-- bytes at the same addresses have the same pages
same_bytes : (start other a b n : ℕ) → (start + a) % 0x10000 ≡ (other + b) % 0x10000
    → map (λ i. page_of (start + i)) (range_with_len a n) ≡ map (λ i. page_of (other + i)) (range_with_len b n)
same_bytes start other a b zero same = refl
same_bytes start other a b (suc n) same =
    let first : page_of (start + a) ≡ page_of (other + b) = omega (arith, same) in
    let rest = same_bytes start other (a + 1) (b + 1) n (omega (arith, same)) in
    (λ i. first i ∷ rest i)

-- the pages of one block more
one_more : (block n : ℕ) → pages_of_bytes block (9 * suc n) ≡ block_pages block ++ pages_of_bytes ((block + 9) % 0x10000) (9 * n)
one_more block n =
    two_parts (λ i. page_of (block + i)) 0 9 (9 * n) (9 * suc n) 9 (omega arith) (omega arith)
    ∙ ap (λ rest. block_pages block ++ rest) (same_bytes block ((block + 9) % 0x10000) 9 0 (9 * n) (omega arith))

-- a chain goes on after its first block
after_first : (memory : List ℕ) (to n block : ℕ) (ended : Bool)
    → flat_map block_pages (chain memory to n ((block + 9) % 0x10000))
    ≡ pages_of_bytes ((block + 9) % 0x10000) (9 * blocks_to_end memory ((block + 9) % 0x10000) n) ++ flat_map block_pages (chain memory to (n - blocks_to_end memory ((block + 9) % 0x10000) n) to)
    → flat_map block_pages (block ∷ chain memory to n (if ended then to else ((block + 9) % 0x10000)))
    ≡ pages_of_bytes block (9 * (if ended then 1 else suc (blocks_to_end memory ((block + 9) % 0x10000) n)))
    ++ flat_map block_pages (chain memory to (suc n - (if ended then 1 else suc (blocks_to_end memory ((block + 9) % 0x10000) n))) to)
after_first memory to n block true rest =
    let left : n ≡ suc n - 1 = omega arith in
    ap (λ k. block_pages block ++ flat_map block_pages (chain memory to k to)) left
after_first memory to n block false rest =
    let next : ℕ = (block + 9) % 0x10000 in
    let blocks : ℕ = blocks_to_end memory next n in
    let left : n - blocks ≡ suc n - suc blocks = omega arith in
    ap (λ pages. block_pages block ++ pages) rest
    ∙ sym (append_assoc (block_pages block) (pages_of_bytes next (9 * blocks)) (flat_map block_pages (chain memory to (n - blocks) to)))
    ∙ ap (λ pages. pages ++ flat_map block_pages (chain memory to (n - blocks) to)) (sym (one_more block blocks))
    ∙ ap (λ k. pages_of_bytes block (9 * suc blocks) ++ flat_map block_pages (chain memory to k to)) left

-- the pages of a chain are those of its blocks up to the first end, and those of what is left of it from the loop word on
up_to_first_end : (memory : List ℕ) (to n block : ℕ) → flat_map block_pages (chain memory to n block)
    ≡ pages_of_bytes block (9 * blocks_to_end memory block n) ++ flat_map block_pages (chain memory to (n - blocks_to_end memory block n) to)
up_to_first_end memory to zero block = refl
up_to_first_end memory to (suc n) block =
    after_first memory to n block (has_end (byte_at memory block)) (up_to_first_end memory to n ((block + 9) % 0x10000))

-- after a block that has no end bit there are more
pub blocks_go_on : (memory : List ℕ) (block n left : ℕ) → n ≡ suc left → has_end (byte_at memory block) ≡ false
    → blocks_to_end memory block n ≡ suc (blocks_to_end memory ((block + 9) % 0x10000) left)
blocks_go_on memory block n left more goes_on =
    ap (λ k. blocks_to_end memory block k) more ∙ ap (λ ended. if ended then 1 else suc (blocks_to_end memory ((block + 9) % 0x10000) left)) goes_on

-- the first block is one of them
pub blocks_have_first : (memory : List ℕ) (block n : ℕ) → 0 < n → 0 < blocks_to_end memory block n
blocks_have_first memory block zero some = absurd (omega arith)
blocks_have_first memory block (suc n) some = elim (has_end (byte_at memory block)) as (λ ended. 0 < (if ended then 1 else suc (blocks_to_end memory ((block + 9) % 0x10000) n))) [
  | true ↦ omega arith
  | false ↦ omega arith
]

-- where there may be more, there are no fewer
blocks_grow : (memory : List ℕ) (block n m : ℕ) → n ≤ m → blocks_to_end memory block n ≤ blocks_to_end memory block m
blocks_grow memory block zero m grows = omega arith
blocks_grow memory block (suc n) zero grows = absurd (omega arith)
blocks_grow memory block (suc n) (suc m) grows =
    elim (has_end (byte_at memory block)) as (λ ended. (if ended then 1 else suc (blocks_to_end memory ((block + 9) % 0x10000) n)) ≤ (if ended then 1 else suc (blocks_to_end memory ((block + 9) % 0x10000) m))) [
      | true ↦ omega arith
      | false ↦ let rest = blocks_grow memory ((block + 9) % 0x10000) n m (omega arith) in omega arith
    ]

-- a chain from its loop word on comes to no page but those of the blocks up to the first end there
comes_again : (memory : List ℕ) (to most q : ℕ) → has_page (pages_of_bytes to (9 * blocks_to_end memory to most)) q ≡ false
    → (fuel n : ℕ) → n ≤ fuel → n ≤ most → has_page (flat_map block_pages (chain memory to n to)) q ≡ false
comes_again memory to most q none fuel zero within few = refl
comes_again memory to most q none zero (suc n) within few = absurd (omega arith)
comes_again memory to most q none (suc fuel) (suc n) within few =
    let blocks : ℕ = blocks_to_end memory to (suc n) in
    let some : 0 < blocks = blocks_have_first memory to (suc n) (omega arith) in
    let grows : blocks ≤ blocks_to_end memory to most = blocks_grow memory to (suc n) most few in
    let first : has_page (pages_of_bytes to (9 * blocks)) q ≡ false =
    has_none (λ i. page_of (to + i)) q 0 (9 * blocks) (λ k from below. none_of (λ i. page_of (to + i)) q 0 (9 * blocks_to_end memory to most) none k from (omega arith)) in
    let rest : has_page (flat_map block_pages (chain memory to (suc n - blocks) to)) q ≡ false =
    comes_again memory to most q none fuel (suc n - blocks) (omega arith) (omega arith) in
    ap (λ pages. has_page pages q) (up_to_first_end memory to (suc n) to)
    ∙ list_any-append (λ page. page == q) (pages_of_bytes to (9 * blocks)) (flat_map block_pages (chain memory to (suc n - blocks) to))
    ∙ rw (first, rest) refl

-- a chain from its loop word on has the pages of the blocks up to the first end there
from_loop_word : (pages : Pages) (memory : List ℕ) (to n : ℕ)
    → with_pages pages (pages_of_bytes to (9 * blocks_to_end memory to n)) ≡ with_pages pages (flat_map block_pages (chain memory to n to))
from_loop_word pages memory to n = with_pages-same pages _ _ (λ q. fail_together _ _ (λ none. comes_again memory to n q none n n (omega arith) (omega arith)) (there q))
  where
    blocks : List ℕ
    blocks = pages_of_bytes to (9 * blocks_to_end memory to n)

    left : List ℕ
    left = flat_map block_pages (chain memory to (n - blocks_to_end memory to n) to)

    there : (q : ℕ) → has_page (flat_map block_pages (chain memory to n to)) q ≡ false → has_page (pages_of_bytes to (9 * blocks_to_end memory to n)) q ≡ false
    there q none =
        let parts : (has_page blocks q || has_page left q) ≡ false = sym (list_any-append (λ page. page == q) blocks left) ∙ ap (λ pages. has_page pages q) (sym (up_to_first_end memory to n to)) ∙ none in
        (or_parts (has_page blocks q) (has_page left q) parts).0

-- a chain has the pages of both parts
pub chain_in_two_parts : (pages : Pages) (memory : List ℕ) (to n block : ℕ)
    → with_pages (with_pages pages (pages_of_bytes block (9 * blocks_to_end memory block n))) (pages_of_bytes to (9 * blocks_to_end memory to (n - blocks_to_end memory block n)))
    ≡ with_pages pages (flat_map block_pages (chain memory to n block))
chain_in_two_parts pages memory to n block =
    let blocks : ℕ = blocks_to_end memory block n in
    from_loop_word (with_pages pages (pages_of_bytes block (9 * blocks))) memory to (n - blocks)
    ∙ with_pages-append pages (pages_of_bytes block (9 * blocks)) (flat_map block_pages (chain memory to (n - blocks) to))
    ∙ ap (with_pages pages) (sym (up_to_first_end memory to n block))

-- a chain that is over with its first part has the pages of that one
pub chain_in_one_part : (pages : Pages) (memory : List ℕ) (to n block : ℕ) → n ≤ blocks_to_end memory block n
    → with_pages pages (pages_of_bytes block (9 * blocks_to_end memory block n)) ≡ with_pages pages (flat_map block_pages (chain memory to n block))
chain_in_one_part pages memory to n block all =
    let blocks : ℕ = blocks_to_end memory block n in
    let none : n - blocks ≡ 0 = omega arith in
    let alone : flat_map block_pages (chain memory to n block) ≡ pages_of_bytes block (9 * blocks) =
    up_to_first_end memory to n block
    ∙ ap (λ k. pages_of_bytes block (9 * blocks) ++ flat_map block_pages (chain memory to k to)) none
    ∙ append-nil (pages_of_bytes block (9 * blocks)) in
    ap (with_pages pages) (sym alone)
