use Rattle.std.proofs.Common.{rules, ◌≡◌, ◌∙◌, ap, ◌≤◌, ℤ, List, [], ◌++◌, length, vec_len, arith, refl}
use Rattle.brr_decode.specs.Kept.{samples_of}
use Rattle.brr_decode.proofs.Samples.{no_samples}
use Rattle.brr_decode.proofs.Blocks.{one_block_more, EndsWith-block, no_block_more, length-samples_of}
use Rattle.brr_decode.proofs.stream.decode_stream.Goals as goal

pub each-init : goal.each-init
unfolding samples_of
each-init c =
    let none : c.in_ok-samples.samples.items ≡ [] = c.in_ok-samples.ensures.items in
    record { so_far = rw none refl; ends = rw none (search (rules, no_samples)) }

pub each-preserved : goal.each-preserved
each-preserved c =
    let kept = c.decode_block-kept.result in
    let items : c.extend_from_slice.new.self.items ≡ c.each.samples.items ++ kept = search rules in
    let cases = c.in-Some.ensures.cases in
    let long : 9 ≤ length c.each.rest.now = omega (arith, cases.2) in
    let sized : length c.in-Some.block.now ≡ 9 = search rules in
    rw items record {
      so_far = one_block_more c.each.rest.now c.in-Some.block.now c.in-Some.tail.now c.each.samples.items kept (samples_of c.args.bytes.now) _ _
          cases.0 cases.1 long c.decode_block-kept.ensures c.each.invariant.ends c.each.invariant.so_far;
      ends = EndsWith-block c.in-Some.block.now c.each.samples.items kept _ _ sized c.decode_block-kept.ensures;
    }

pub returns-clause-count : goal.returns-clause-count
returns-clause-count c =
    let items : c.each.samples.items ≡ samples_of c.args.bytes.now =
    no_block_more c.each.rest.now c.each.samples.items (samples_of c.args.bytes.now) c.in_default.ensures.cases c.each.invariant.so_far in
    let count : vec_len c.each.samples ≡ length c.each.samples.items = search rules in
    count ∙ ap (λ (l : List ℤ). length l) items ∙ length-samples_of c.args.bytes.now
