use Rattle.std.proofs.Common.{◌≡◌, ◌+◌, length, map, take}
use Rattle.echo_unit.specs.Echo.{EchoState}
use Rattle.echo_unit.specs.Cells.{after_cells, pairs_read}
use Rattle.echo_unit.proofs.echo.Echo.read_neighbours.Given as goal

abbrev pub invariant-loop-i : goal.invariant-loop-i
invariant-loop-i l = record {
  left : (s : EchoState) → l.self ≡ after_cells s l.regs.edl l.before → take (8 + l.before) l.initial.left ≡ map (λ pair. pair.left) (pairs_read s l.regs l.memory l.before)
      → take (8 + (l.before + l.i)) l.left ≡ map (λ pair. pair.left) (pairs_read s l.regs l.memory (l.before + l.i));
  right : (s : EchoState) → l.self ≡ after_cells s l.regs.edl l.before → take (8 + l.before) l.initial.right ≡ map (λ pair. pair.right) (pairs_read s l.regs l.memory l.before)
      → take (8 + (l.before + l.i)) l.right ≡ map (λ pair. pair.right) (pairs_read s l.regs l.memory (l.before + l.i));
  long_left : length l.left ≡ 72;
  long_right : length l.right ≡ 72;
}
