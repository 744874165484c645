use Rattle.std.proofs.Common.{rules, ◌∙◌, ap, List, ℤ, [], ◌∷◌, ◌++◌}
use Rattle.brr_decode.specs.Kept.{with_group, digits_under, kept_sample}
use Rattle.brr_decode.proofs.Samples.{with_all_kept-is}
use Rattle.brr_decode.proofs.block.group_under.Goals as goal

pub returns : goal.returns
unfolding with_group kept_sample
returns c = λ samples ends.
    with_all_kept-is (digits_under c.args.header (c.args.b0 ∷ c.args.b1 ∷ [])) samples c.args.p2 c.args.p1 ends
    ∙ ap (λ (l : List ℤ). samples ++ l) (search rules)
