use Rattle.std.proofs.Common.{rules, ◌≡◌, ◌∙◌, sym, ap, ℕ, List, length, get_or}
use Rattle.std.specs.Int.{w16}
use Rattle.std.proofs.lemmas.Int.{to_z-of_z}
use Rattle.brr_decode.specs.Kept.{with_all_kept, with_group, digits_of, EndsWith}
use Rattle.brr_decode.proofs.Blocks.{read_again, Gives-block, nine}
use Rattle.brr_decode.proofs.block.decode_block.Goals as goal

pub returns : goal.returns
unfolding with_group
returns c = λ samples ends.
    let bytes = c.args.block.now in
    let long : length bytes ≡ 9 = search rules in
    let at = λ (i : ℕ). get_or bytes i 0 in
    let p1 : read_again c.args.p1 ≡ c.args.p1 = to_z-of_z w16 c.args.p1 c.ranges.p1 in
    let p2 : read_again c.args.p2 ≡ c.args.p2 = to_z-of_z w16 c.args.p2 c.ranges.p2 in
    let ends' : EndsWith samples (read_again c.args.p2) (read_again c.args.p1) = record {
      last = ends.last ∙ sym p1;
      before = ends.before ∙ sym p2;
    } in
    ap (λ (l : List ℕ). with_all_kept samples (digits_of l)) (nine bytes long)
    ∙ Gives-block (at 0) (at 1) (at 2) (at 3) (at 4) (at 5) (at 6) (at 7) (at 8) _ _
    c.decode_group-a.result c.decode_group-b.result c.decode_group-c.result c.decode_group-d.result
    c.decode_group-a.ensures c.decode_group-b.ensures c.decode_group-c.ensures c.decode_group-d.ensures samples ends'
