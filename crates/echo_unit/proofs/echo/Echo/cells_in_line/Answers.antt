use Rattle.std.proofs.Common.{◌≡◌, sym, ap, arith}
use Rattle.echo_unit.specs.Echo.{EchoState}
use Rattle.echo_unit.proofs.Walk.{in_line}
use Rattle.echo_unit.proofs.echo.Echo.cells_in_line.Goals as goal

pub returns-clause-line : goal.returns-clause-line
returns-clause-line c j below =
    let s : EchoState = c.args.self.now in
    let offset : s.offset ≡ c.self.inside.offset = sym (ap (λ (e : EchoState). e.offset) c.self.view_is) in
    (in_line c.args.edl _ s (λ some. omega (arith, c.length_in_force.ensures.value, offset)) j below).0
