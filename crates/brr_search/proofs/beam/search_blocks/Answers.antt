use Rattle.std.proofs.Common.{◌≡◌, ℕ, ◌%◌, ◌/◌, ◌==◌, length, ap, ◌∙◌, arith}
use Rattle.std.proofs.lemmas.Bool.Decides.{nat_tests}
use Rattle.brr_encode.specs.Encoding.{header_count}
use Rattle.brr_search.proofs.Through.{through_next}
use Rattle.brr_search.proofs.beam.search_blocks.Goals as goal

-- as many blocks as samples over sixteen
no_block_left : (n : ℕ) → n % 16 ≡ 0 → (n == 0) ≡ (n / 16 == 0)
no_block_left n whole = grind (arith, nat_tests, whole)

pub each-preserved : goal.each-preserved
each-preserved c =
    let cases = c.in-Some.ensures.cases in
    let last : c.is_empty.result ≡ (length c.in-Some.tail.now / 16 == 0) = c.is_empty.ensures ∙ no_block_left (length c.in-Some.tail.now) (omega (arith, cases.2, c.each.invariant.whole)) in
    let count = c.header_count-count.ensures.count ∙ ap header_count c.stands_alone.ensures in
    record {
      through = through_next _ _ _ _ _ _ _ _ _ _ _ c.each.rest.now c.in-Some.block.now c.in-Some.tail.now _ cases.0 cases.1 cases.2 last count c.end_bits-flags.ensures.value c.in_ok-pass_block.ensures.candidates c.in_ok-pass_block.ensures.fronts c.each.invariant.through;
      whole = omega (arith, cases.2, c.each.invariant.whole);
      index = omega (arith, cases.2, c.each.invariant.index);
      few = omega (arith, c.in_ok-pass_block.ensures.few, c.requires.most);
    }
