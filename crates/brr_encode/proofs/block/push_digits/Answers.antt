use Rattle.std.proofs.Common.{rules, ◌≡◌, ◌≤◌, ◌∷◌, length, pos, get_or, arith, sym, ◌∙◌, to_z, of_z, w16}
use Rattle.std.proofs.lemmas.Grind.{common_steps}
use Rattle.brr_encode.proofs.Pairs.{two_and_rest, bytes_next, coder_next}
use Rattle.brr_encode.proofs.block.push_digits.Goals as goal

pub pairs-preserved : goal.pairs-preserved
pairs-preserved c =
    let cases = c.in-Some.ensures.cases in
    let two : 2 ≤ length c.pairs.rest.now = omega (arith, cases.2) in
    let a : to_z w16 (of_z w16 (get_or c.in-Some.pair.now 0 (pos 0))) ≡ get_or c.in-Some.pair.now 0 (pos 0) = search rules in
    let b : to_z w16 (of_z w16 (get_or c.in-Some.pair.now 1 (pos 0))) ≡ get_or c.in-Some.pair.now 1 (pos 0) = search rules in
    let split = two_and_rest c.pairs.rest.now c.in-Some.pair.now c.in-Some.tail.now cases.0 cases.1 two in
    let rest = split ∙ (λ i. sym a i ∷ sym b i ∷ c.in-Some.tail.now) in
    let items = c.in_ok-push.ensures.items in
    record {
      bytes = rw items (bytes_next _ _ _ _ _ _ _ _ _ _ _ _ rest c.code-high.ensures.digit c.code-high.ensures.coder c.code-low.ensures.digit c.code-low.ensures.coder c.digit_byte.ensures) ∙ c.pairs.invariant.bytes;
      coder = coder_next _ _ _ _ _ _ _ _ _ rest c.code-high.ensures.coder c.code-low.ensures.coder c.pairs.invariant.coder;
      pairs = omega (arith, cases.2, c.pairs.invariant.pairs);
      bound = omega (arith, cases.2, c.pairs.invariant.bound, c.code-high.ensures.bound, c.code-low.ensures.bound);
    }

pub returns-clause-bytes : goal.returns-clause-bytes
returns-clause-bytes c = grind (arith, common_steps)

pub returns-clause-coder : goal.returns-clause-coder
returns-clause-coder c = grind (arith, common_steps)
