use Rattle.std.proofs.Common.{◌≤◌, ◌∙◌, ap, arith}
use Rattle.cut_form.specs.CutBook.{runs_from}
use Rattle.cut_server.specs.ServerState.{book_of}
use Rattle.player.proofs.Nearness.{source-le, same_source, less_is_left}
use Rattle.player.proofs.player.Player.seek_some.Goals as goal

pub returns-clause-made : goal.returns-clause-made
returns-clause-made g c =
    let book = book_of c.self.inside.server in
    let few = source-le book c.args.at in
    let within : c.min-goal.result ≤ c.args.at = omega (arith, c.min-goal.ensures) in
    let behind : runs_from book c.args.at ≤ c.min-goal.result = omega (arith, c.min-goal.ensures, c.saturating_add.ensures, c.runs_from.ensures, few, c.ranges.at.fits) in
    let same = same_source book c.args.at c.min-goal.result behind within in
    rw (← c.self.view_is) (omega (arith, ap (λ b. b.made) c.seek.ensures.book, same, c.min-goal.ensures, c.saturating_add.ensures, c.runs_from.ensures, few, c.ranges.at.fits))

pub returns-clause-left : goal.returns-clause-left
returns-clause-left g c =
    let book = book_of c.self.inside.server in
    let few = source-le book c.args.at in
    rw (← c.self.view_is)
    (less_is_left book (book_of c.seek.new.self) c.args.at c.args.most (ap (λ b. b.live) c.seek.ensures.book)
    (ap (λ b. b.position) c.seek.ensures.book ∙ omega (arith, c.min-goal.ensures, c.saturating_add.ensures, c.runs_from.ensures, few, c.ranges.at.fits)))
