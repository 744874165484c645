use Rattle.std.proofs.Common.{rules, ◌≡◌, ◌<◌, ◌+◌, ◌*◌, ◌%◌, ℕ, List, to_z, of_z, ap, sym, ◌∙◌, arith}
use Rattle.std.specs.Int.{w16}
use Rattle.num_fix.specs.SignedWords.{number_at}
use Rattle.aram_core.specs.Pages.{page_of}
use Rattle.echo_unit.specs.Echo.{EchoState, cell_address, with_cell}
use Rattle.echo_unit.specs.Cells.{after_cells}
use Rattle.echo_unit.specs.Page.{with_pair_in}
use Rattle.echo_unit.proofs.Neighbours.{after_cells-add, neighbour_put, with_own_page}
use Rattle.echo_unit.proofs.RunByRows.{with_cells-more}
use Rattle.echo_unit.proofs.echo.Echo.write_neighbours.Goals as goal

pub loop-i-init : goal.loop-i-init
loop-i-init c = record {
  memory = λ s first at was.
      let none : c.args.before + 0 ≡ c.args.before = omega arith in
      rw (none, c.copy_from_slice.ensures.after, c.page.ensures.bytes) (with_own_page c.args.memory.now c.page_of-page.result ∙ was);
  long = search rules;
}

pub loop-i-preserved : goal.loop-i-preserved
loop-i-preserved c =
    let i : ℕ = c.loop-i.i in
    let j : ℕ = c.args.before + i in
    let esa : ℕ = c.args.regs.now.esa in
    let edl : ℕ = c.args.regs.now.edl in
    let s : EchoState = c.args.self.now in
    let below : i < c.args.cells = omega (arith, c.loop-i-test.true, c.from-i-end.ensures) in
    let place : c.from-from.result + i ≡ j = omega (arith, c.from-from.ensures) in
    let address : c.cell-address.result ≡ cell_address esa s.offset = c.cell-address.ensures in
    let page : c.page_of-page.result ≡ page_of (cell_address esa s.offset) = rw address at c.page_of-page.ensures in
    let at : c.from-at.result ≡ cell_address esa s.offset % 256 = rw address at c.from-at.ensures in
    let left : to_z w16 (of_z w16 (number_at c.args.left.now j)) ≡ number_at c.args.left.now j = search rules in
    let right : to_z w16 (of_z w16 (number_at c.args.right.now j)) ≡ number_at c.args.right.now j = search rules in
    let bytes : c.put_pair.new.page ≡ with_pair_in c.loop-i.bytes (cell_address esa s.offset % 256 + 4 * i) (number_at c.args.left.now j) (number_at c.args.right.now j) =
    rw (at, place, left, right) at c.put_pair.ensures in
    let made = neighbour_put c.args.memory.now c.loop-i.bytes esa edl c.args.cells i (number_at c.args.left.now j) (number_at c.args.right.now j) s
    c.page.ensures.memory c.loop-i.invariant.long c.requires.neighbours below in
    record {
      memory = λ first memory is was.
          let more : c.args.before + (i + 1) ≡ j + 1 = omega arith in
          let here : after_cells first edl j ≡ after_cells s edl i = after_cells-add first edl c.args.before i ∙ ap (λ (t : EchoState). after_cells t edl i) (sym is) in
          let before = rw page at (c.loop-i.invariant.memory first memory is was) in
          rw (more, with_cells-more, bytes, page, here) (sym made
          ∙ ap (λ (m : List ℕ). with_cell m (cell_address esa (after_cells s edl i).offset) (number_at c.args.left.now j) (number_at c.args.right.now j)) before);
      long = c.type_inv.bytes;
    }
