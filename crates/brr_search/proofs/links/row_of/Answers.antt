use Rattle.std.proofs.Common.{◌∙◌, sym, ◌++◌, ◌∷◌, []}
use Rattle.brr_search.specs.Candidates.{no_candidate}
use Rattle.brr_search.specs.Links.{link_of}
use Rattle.brr_search.proofs.Rows.{map_more}
use Rattle.brr_search.proofs.links.row_of.Goals as goal

pub candidates-preserved : goal.candidates-preserved
candidates-preserved c =
    c.in_ok-push.ensures.items
    ∙ (λ i. c.candidates.invariant i ++ c.link_of.ensures i ∷ [])
    ∙ sym (map_more (link_of c.args.flags) c.args.candidates.now c.candidates.candidate-index no_candidate c.candidates-test.true)
