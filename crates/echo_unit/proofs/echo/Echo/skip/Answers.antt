use Rattle.std.proofs.Common.{◌≡◌, ◌+◌, ◌*◌, nat_le, true, false, sym, ap, arith}
use Rattle.std.proofs.lemmas.Bool.Decides.{nat_tests}
use Rattle.echo_unit.specs.Echo.{EchoState, length_in_force}
use Rattle.echo_unit.proofs.Neighbours.{skipped}
use Rattle.echo_unit.proofs.echo.Echo.skip.Goals.{then-length-end, else-length-end}
use Rattle.echo_unit.proofs.echo.Echo.skip.Goals as goal

pub returns : goal.returns
returns c =
    let s : EchoState = c.args.self.now in
    let made = skipped c.args.edl c.args.cells s c.requires.some c.requires.neighbours in
    let offset : s.offset ≡ c.self.inside.offset = sym (ap (λ (e : EchoState). e.offset) c.self.view_is) in
    let history : s.history ≡ c.self.inside.history = sym (ap (λ (e : EchoState). e.history) c.self.view_is) in
    elim c.if-length-end.branch [
      | then-length-end w ↦
          let test : nat_le (length_in_force c.args.edl s) (s.offset + 4 * c.args.cells) ≡ true = grind (arith, nat_tests, w.if-length-end.true, c.length_in_force-length.ensures.value, c.from.ensures, offset) in
          rw (w.self-is, c.length_in_force-length.ensures.value, ← history) (rw test at made)
      | else-length-end w ↦
          let test : nat_le (length_in_force c.args.edl s) (s.offset + 4 * c.args.cells) ≡ false = grind (arith, nat_tests, w.if-length-end.false, c.length_in_force-length.ensures.value, c.from.ensures, offset) in
          rw (w.self-is, c.from.ensures, c.length_in_force-length.ensures.value, ← history, ← offset) (rw test at made)
    ]
