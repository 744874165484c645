use Rattle.std.proofs.Common.{rules, ◌≡◌, pos, length}
use Rattle.echo_unit.proofs.History.{map-eight}
use Rattle.echo_unit.proofs.filter.rights.Goals as goal

pub returns : goal.returns
returns c =
    let eight : length c.args.pairs.now ≡ 8 = search rules in
    let one_by_one = map-eight (λ pair. pair.right) c.args.pairs.now record { left = pos 0; right = pos 0 } eight in
    rw one_by_one (search rules)
