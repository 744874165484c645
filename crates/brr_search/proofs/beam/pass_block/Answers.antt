use Rattle.std.proofs.Common.{List, ap, sym, ◌∙◌, map}
use Rattle.brr_search.specs.Links.{link_of}
use Rattle.brr_search.specs.declared.candidate.Candidate.{Candidate}
use Rattle.brr_search.proofs.Headers.{best_candidates-take_flags}
use Rattle.brr_search.proofs.Rows.{row_fronts}
use Rattle.brr_search.proofs.beam.pass_block.Goals as goal

pub row_of-requires-clause-room : goal.row_of-requires-clause-room
row_of-requires-clause-room c = rw (c.deref-2.ensures.value, c.in_ok-best_candidates.ensures.candidates) (best_candidates-take_flags c.args.most c.deref.result.now c.args.targets.now c.args.count c.requires.count)

pub returns-clause-fronts : goal.returns-clause-fronts
returns-clause-fronts c =
    let candidates = c.deref-2.ensures.value ∙ sym (ap (λ v. v.items) c.swap.ensures.x_after) in
    row_fronts _ _ _ c.args.flags _ c.in_ok-push.ensures.items (c.in_ok-row.ensures ∙ ap (λ (l : List Candidate). map (link_of c.args.flags) l) candidates)
