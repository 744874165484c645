-- A block more of a search.
use Rattle.std.proofs.Common.{◌≡◌, ℕ, suc, ◌+◌, ◌/◌, Bool, ◌==◌, ℤ, List, length, take, drop, sym, ap, ◌∙◌, arith, add-one}
use Rattle.brr_encode.specs.Encoding.{header_count, stands_alone, end_bits}
use Rattle.brr_search.specs.Beam.{best_candidates, fronts, blocks_through}
use Rattle.brr_search.specs.declared.candidate.Candidate.{Candidate}

pub through_next : (most index loop_block count flags : ℕ) (looped last : Bool) (candidates new : List Candidate) (front longer : ℕ → List ℕ) (rest block tail : List ℤ) (total : List ℕ)
    → block ≡ take 16 rest → tail ≡ drop 16 rest → length tail + 16 ≡ length rest → last ≡ (length tail / 16 == 0)
    → count ≡ header_count (stands_alone index loop_block) → flags ≡ end_bits last looped
    → new ≡ best_candidates most candidates block count → ((place : ℕ) → longer place ≡ fronts front flags new place)
    → blocks_through most (length rest / 16) index loop_block looped candidates front rest ≡ total
    → blocks_through most (length tail / 16) (index + 1) loop_block looped new longer tail ≡ total
through_next most index loop_block count flags looped last candidates new front longer rest block tail total is_block is_tail sized last_is count_is flags_is new_is longer_is whole =
    let best = best_candidates most candidates (take 16 rest) (header_count (stands_alone index loop_block)) in
    let new_best : new ≡ best = new_is ∙ (λ i. best_candidates most candidates (is_block i) (count_is i)) in
    let bits : flags ≡ end_bits (length tail / 16 == 0) looped = flags_is ∙ ap (λ (b : Bool). end_bits b looped) last_is in
    let longer_best : (place : ℕ) → longer place ≡ fronts front (end_bits (length tail / 16 == 0) looped) best place =
    (λ place. longer_is place ∙ (λ i. fronts front (bits i) (new_best i) place)) in
    let blocks : length rest / 16 ≡ suc (length tail / 16) = omega (arith, sized) in
    (λ i. blocks_through most (length tail / 16) (add-one index i) loop_block looped (new_best i) (λ place. longer_best place i) (is_tail i))
    ∙ ap (λ (n : ℕ). blocks_through most n index loop_block looped candidates front rest) (sym blocks)
    ∙ whole
