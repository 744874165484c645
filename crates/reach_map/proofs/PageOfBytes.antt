-- Whether bytes that follow one another, or the blocks of a chain, have a page.
use Rattle.std.proofs.Common.{◌≡◌, ℕ, zero, suc, ◌+◌, ◌-◌, ◌*◌, ◌/◌, ◌%◌, ◌<◌, ◌≤◌, List, flat_map, Bool, true, false, if◌then◌else◌, ◌||◌, inl, inr, refl, sym, ap, ◌∙◌, arith}
use Rattle.std.specs.FinSet as set
use Rattle.std.specs.Ordering.{nat_cmp}
use Rattle.std.proofs.lemmas.Bool.{cases_lt}
use Rattle.aram_core.specs.Pages.{Pages, page_of, has_page}
use Rattle.aram_core.specs.Memory.{byte_at}
use Rattle.brr_decode.specs.Header.{has_end}
use Rattle.reach_map.specs.Added.{with_pages}
use Rattle.reach_map.specs.Reach.{pages_of_bytes, block_pages, chain}
use Rattle.reach_map.specs.BlocksToEnd.{blocks_to_end}
use Rattle.reach_map.proofs.Added.{contains-with_pages}
use Rattle.reach_map.proofs.EveryPage.{none_of, has_none, fail_together}
use Rattle.reach_map.proofs.ChainInTwoParts.{chain_in_two_parts, chain_in_one_part}

-- a page that is so many pages on from that of the start, and that no byte has, is beyond the last byte
missed : (start count page way : ℕ) → start < 0x10000 → page < 0x100 → way < 0x100 → (start / 256 + way) % 256 ≡ page → 1 ≤ count
    → has_page (pages_of_bytes start count) page ≡ false → count + start % 256 ≤ 256 * way
missed start count page way small small' small'' there some none = elim (cases_lt (256 * way) (count + start % 256)) [
  | inl before ↦ absurd (none_of (λ i. page_of (start + i)) page 0 count none (256 * way - start % 256) (omega arith) (omega (arith, before, some)) (omega (arith, there, small, small', small'')))
  | inr beyond ↦ beyond
]

beyond : (start count page way : ℕ) → start < 0x10000 → page < 0x100 → way < 0x100 → (start / 256 + way) % 256 ≡ page → count ≤ 0x10000
    → count + start % 256 ≤ 256 * way → has_page (pages_of_bytes start count) page ≡ false
beyond start count page way small small' small'' there most far =
    has_none (λ i. page_of (start + i)) page 0 count (λ k from below same. absurd (omega (arith, there, small, small', small'', most, far, below, same)))

-- a test of the one is a test of the other
pub has_page-bytes : (start count page way : ℕ) (test : Bool) → start < 0x10000 → page < 0x100 → way < 0x100 → (start / 256 + way) % 256 ≡ page → 1 ≤ count → count ≤ 0x10000
    → (test ≡ false → count + start % 256 ≤ 256 * way) → (count + start % 256 ≤ 256 * way → test ≡ false) → test ≡ has_page (pages_of_bytes start count) page
has_page-bytes start count page way test small small' small'' there some most far near =
    fail_together test _ (λ off. beyond start count page way small small' small'' there most (far off))
    (λ none. near (missed start count page way small small' small'' there some none))

-- a page of fewer bytes from the same start on is one of more of them
pub fewer_bytes : (start few many page : ℕ) → few ≤ many → has_page (pages_of_bytes start many) page ≡ false → has_page (pages_of_bytes start few) page ≡ false
fewer_bytes start few many page more none =
    has_none (λ i. page_of (start + i)) page 0 few (λ k from below. none_of (λ i. page_of (start + i)) page 0 many none k from (omega (arith, below, more)))

-- the set of no page with the pages of a list has those of the list
has : (pages : List ℕ) (page : ℕ) → set.contains (with_pages set.empty pages) page ≡ has_page pages page
has pages page = contains-with_pages set.empty pages page ∙ ap (λ b. b || has_page pages page) (set.contains-empty nat_cmp page)

-- a chain has the pages of both its parts
pub has_page-two_parts : (memory : List ℕ) (to n block page : ℕ)
    → has_page (flat_map block_pages (chain memory to n block)) page
    ≡ (has_page (pages_of_bytes block (9 * blocks_to_end memory block n)) page || has_page (pages_of_bytes to (9 * blocks_to_end memory to (n - blocks_to_end memory block n))) page)
has_page-two_parts memory to n block page =
    let first : List ℕ = pages_of_bytes block (9 * blocks_to_end memory block n) in
    let again : List ℕ = pages_of_bytes to (9 * blocks_to_end memory to (n - blocks_to_end memory block n)) in
    sym (has (flat_map block_pages (chain memory to n block)) page)
    ∙ ap (λ (pages : Pages). set.contains pages page) (sym (chain_in_two_parts set.empty memory to n block))
    ∙ contains-with_pages (with_pages set.empty first) again page
    ∙ ap (λ b. b || has_page again page) (has first page)

-- and where it is over with its first part, those of that one
pub has_page-one_part : (memory : List ℕ) (to n block page : ℕ) → n ≤ blocks_to_end memory block n
    → has_page (flat_map block_pages (chain memory to n block)) page ≡ has_page (pages_of_bytes block (9 * blocks_to_end memory block n)) page
has_page-one_part memory to n block page all =
    sym (has (flat_map block_pages (chain memory to n block)) page)
    ∙ ap (λ (pages : Pages). set.contains pages page) (sym (chain_in_one_part set.empty memory to n block all))
    ∙ has (pages_of_bytes block (9 * blocks_to_end memory block n)) page

-- tests of a walk: of its first part, of both its parts, and of one part that is the whole
pub in_first_part : (memory : List ℕ) (to n block page first : ℕ) → first ≡ blocks_to_end memory block n → true ≡ has_page (pages_of_bytes block (9 * first)) page
    → true ≡ has_page (flat_map block_pages (chain memory to n block)) page
in_first_part memory to n block page first is here =
    let there : has_page (pages_of_bytes block (9 * blocks_to_end memory block n)) page ≡ true = rw (← is) (sym here) in
    sym (has_page-two_parts memory to n block page ∙ rw there refl)

pub in_second_part : (memory : List ℕ) (to n block page first again : ℕ) (test : Bool) → first ≡ blocks_to_end memory block n → again ≡ blocks_to_end memory to (n - first)
    → false ≡ has_page (pages_of_bytes block (9 * first)) page → test ≡ has_page (pages_of_bytes to (9 * again)) page
    → test ≡ has_page (flat_map block_pages (chain memory to n block)) page
in_second_part memory to n block page first again test is is_again off there =
    let one : has_page (pages_of_bytes block (9 * blocks_to_end memory block n)) page ≡ false = rw (← is) (sym off) in
    let two : has_page (pages_of_bytes to (9 * blocks_to_end memory to (n - blocks_to_end memory block n))) page ≡ test =
    rw (← is, ← is_again) (sym there) in
    sym (has_page-two_parts memory to n block page ∙ rw (one, two) refl)

pub in_one_part : (memory : List ℕ) (to n block page first : ℕ) → first ≡ blocks_to_end memory block n → first ≡ n → false ≡ has_page (pages_of_bytes block (9 * first)) page
    → false ≡ has_page (flat_map block_pages (chain memory to n block)) page
in_one_part memory to n block page first is all off =
    let one : has_page (pages_of_bytes block (9 * blocks_to_end memory block n)) page ≡ false = rw (← is) (sym off) in
    sym (has_page-one_part memory to n block page (omega (arith, is, all)) ∙ one)

-- no more blocks stand one after another than are asked for
blocks_few : (memory : List ℕ) (block n : ℕ) → blocks_to_end memory block n ≤ n
blocks_few memory block zero = omega arith
blocks_few memory block (suc n) = elim (has_end (byte_at memory block)) as (λ ended. (if ended then 1 else suc (blocks_to_end memory ((block + 9) % 0x10000) n)) ≤ suc n) [
  | true ↦ omega arith
  | false ↦ let rest = blocks_few memory ((block + 9) % 0x10000) n in omega arith
]

-- a page off the bytes in which the blocks of a chain can stand is none of the chain's
pub apart_from_chain : (memory : List ℕ) (to n block page : ℕ) → has_page (pages_of_bytes block (9 * n)) page ≡ false → has_page (pages_of_bytes to (9 * n)) page ≡ false
    → has_page (flat_map block_pages (chain memory to n block)) page ≡ false
apart_from_chain memory to n block page off off' =
    let first : ℕ = blocks_to_end memory block n in
    let few : first ≤ n = blocks_few memory block n in
    let again : blocks_to_end memory to (n - first) ≤ n - first = blocks_few memory to (n - first) in
    has_page-two_parts memory to n block page
    ∙ rw (fewer_bytes block (9 * first) (9 * n) page (omega (arith, few)) off, fewer_bytes to (9 * blocks_to_end memory to (n - first)) (9 * n) page (omega (arith, again)) off') refl
