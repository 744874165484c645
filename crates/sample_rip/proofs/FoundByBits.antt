-- What is found of a sample, by the bits of its blocks.
use Rattle.std.proofs.Common.{◌≡◌, ℕ, ◌+◌, ◌<◌, ◌≤◌, List, Option, Some, None, Bool, true, false, refl, arith}
use Rattle.std.specs.Prelude.{◌==◌, if◌then◌else◌}
use Rattle.std.proofs.lemmas.Bool.Decides.{nat_tests}
use Rattle.brr_encode.specs.Encoding.{max_blocks}
use Rattle.voice_unit.specs.Directory.{start_word, loop_word}
use Rattle.sample_rip.specs.Blocks.{block_address, ends_at, loops_at}
use Rattle.sample_rip.specs.Rip.{last_block, block_at, loop_end, block_count, end_after, rip_found}
use Rattle.sample_rip.specs.Laws.{NoneStandsAt, EndSays, FoundSays, FoundByItsBits}
use Rattle.sample_rip.specs.declared.found.RipEnd.TheVariants.{NoLoop}
use Rattle.sample_rip.proofs.FirstPlaces.{FirstSays, first_says}

last_says : (memory : List ℕ) (start : ℕ) → FirstSays (ends_at memory start) 0 max_blocks (last_block memory start)
unfolding last_block
last_says memory start = first_says (ends_at memory start) 0 max_blocks

block_says : (start address last : ℕ) → FirstSays (λ block. block_address start block == address) 0 (last + 1) (block_at start address last)
unfolding block_at
block_says start address last = first_says (λ block. block_address start block == address) 0 (last + 1)

none_stands : (start address blocks : ℕ) → ((k : ℕ) → 0 ≤ k → k < blocks → (block_address start k == address) ≡ false) → NoneStandsAt start address blocks
none_stands start address blocks fails = λ k below.
    let other = fails k (omega arith) below in
    grind (arith, nat_tests, other)

by_block : (memory : List ℕ) (start address last : ℕ) (answer : Option ℕ) → ends_at memory start last ≡ true → loops_at memory start last ≡ true
    → FirstSays (λ block. block_address start block == address) 0 (last + 1) answer → EndSays memory start address last (loop_end answer)
by_block memory start address last None ends loops says = (ends, loops, none_stands start address (last + 1) (λ k above below. says k above (omega (arith, below))))
by_block memory start address last (Some block) ends loops (inside, passes, before) =
    let stands : block_address start block ≡ address = grind (arith, nat_tests, passes) in
    (ends, loops, (block, omega (arith, inside), refl, stands, none_stands start address block before))

by_loop_bit : (looped : Bool) (memory : List ℕ) (start address last : ℕ) → loops_at memory start last ≡ looped → ends_at memory start last ≡ true
    → EndSays memory start address last (if looped then loop_end (block_at start address last) else NoLoop)
by_loop_bit true memory start address last loops ends = by_block memory start address last (block_at start address last) ends loops (block_says start address last)
by_loop_bit false memory start address last loops ends = (ends, loops)

by_last : (memory : List ℕ) (start address : ℕ) (last : Option ℕ) → FirstSays (ends_at memory start) 0 max_blocks last
    → FoundSays memory start address (record { start = start; blocks = block_count last; «end» = end_after memory start address last })
by_last memory start address None says =
    (refl, (7279, refl, omega arith, (λ k below. says k (omega arith) (omega (arith, below))), (says 7279 (omega arith) (omega arith), refl)))
by_last memory start address (Some last) (inside, passes, before) =
    (refl, (last, refl, omega (arith, inside), (λ k below. before k (omega arith) below), by_loop_bit (loops_at memory start last) memory start address last refl passes))

pub found_by_its_bits : FoundByItsBits
unfolding rip_found
found_by_its_bits memory dir entry =
    let start = start_word dir entry memory in
    by_last memory start (loop_word dir entry memory) (last_block memory start) (last_says memory start)
