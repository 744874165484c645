use Rattle.brr_search.proofs.Rows.{taken}
use Rattle.brr_search.proofs.links.take_link.Goals as goal

pub returns-in-Some-clause-blocks : goal.returns-in-Some-clause-blocks
returns-in-Some-clause-blocks c = taken c.args.rows.now.items c.pop.new.self.items c.in-Some.row c.args.place c.link_at.result c.in-Some.ensures.items c.link_at.ensures
