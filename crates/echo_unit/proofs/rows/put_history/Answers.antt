use Rattle.std.proofs.Common.{rules, ◌≡◌, ◌<◌, ℕ, pos, length, map, get_or, to_z, of_z, refl, ap, ◌∙◌, arith}
use Rattle.std.specs.Int.{w16}
use Rattle.std.proofs.lemmas.List.{length-set}
use Rattle.num_fix.specs.declared.Frame.{Frame}
use Rattle.echo_unit.proofs.Entries.{pairs_more, take_all}
use Rattle.echo_unit.proofs.rows.put_history.Goals as goal

pub loop-i-init : goal.loop-i-init
loop-i-init c = record { left = refl; right = refl; long_left = search rules; long_right = search rules }

pub loop-i-preserved : goal.loop-i-preserved
loop-i-preserved c =
    let i : ℕ = c.loop-i.i in
    let silence : Frame = record { left = pos 0; right = pos 0 } in
    let eight : length c.args.history.now ≡ 8 = search rules in
    let inside : i < length c.args.history.now = omega (arith, eight) in
    let whole_left : to_z w16 (of_z w16 c.left_of.result) ≡ c.left_of.result = search rules in
    let whole_right : to_z w16 (of_z w16 c.right_of.result) ≡ c.right_of.result = search rules in
    let is_left : c.left_of.result ≡ (get_or c.args.history.now i silence).left = search rules in
    let is_right : c.right_of.result ≡ (get_or c.args.history.now i silence).right = search rules in
    record {
      left = rw whole_left (pairs_more (λ pair. pair.left) c.loop-i.left c.args.history.now i c.left_of.result silence (omega (arith, c.loop-i.invariant.long_left)) inside c.loop-i.invariant.left is_left);
      right = rw whole_right (pairs_more (λ pair. pair.right) c.loop-i.right c.args.history.now i c.right_of.result silence (omega (arith, c.loop-i.invariant.long_right)) inside c.loop-i.invariant.right is_right);
      long_left = length-set c.loop-i.left i (to_z w16 (of_z w16 c.left_of.result)) ∙ c.loop-i.invariant.long_left;
      long_right = length-set c.loop-i.right i (to_z w16 (of_z w16 c.right_of.result)) ∙ c.loop-i.invariant.long_right;
    }

pub returns-clause-left : goal.returns-clause-left
returns-clause-left c =
    let eight : length c.args.history.now ≡ 8 = search rules in
    let end : c.loop-i.i ≡ 8 = omega arith in
    (rw end at c.loop-i.invariant.left) ∙ ap (map (λ (pair : Frame). pair.left)) (take_all c.args.history.now 8 eight)

pub returns-clause-right : goal.returns-clause-right
returns-clause-right c =
    let eight : length c.args.history.now ≡ 8 = search rules in
    let end : c.loop-i.i ≡ 8 = omega arith in
    (rw end at c.loop-i.invariant.right) ∙ ap (map (λ (pair : Frame). pair.right)) (take_all c.args.history.now 8 eight)
