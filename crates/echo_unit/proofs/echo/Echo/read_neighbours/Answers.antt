use Rattle.std.proofs.Common.{rules, ◌≡◌, ◌<◌, ◌+◌, ◌%◌, ℕ, to_z, of_z, refl, ap, sym, ◌∙◌, arith}
use Rattle.std.specs.Int.{w16}
use Rattle.std.proofs.lemmas.List.{length-set}
use Rattle.num_fix.specs.declared.Frame.{Frame}
use Rattle.aram_core.specs.Memory.{page_bytes}
use Rattle.aram_core.specs.Pages.{page_of}
use Rattle.echo_unit.specs.Echo.{EchoState, cell_pair, cell_address}
use Rattle.echo_unit.specs.Cells.{after_cells}
use Rattle.echo_unit.proofs.Neighbours.{after_cells-add, neighbour_pair}
use Rattle.echo_unit.proofs.RunByRows.{cell_more}
use Rattle.echo_unit.proofs.echo.Echo.read_neighbours.Goals as goal

pub loop-i-preserved : goal.loop-i-preserved
loop-i-preserved c =
    let i : ℕ = c.loop-i.i in
    let esa : ℕ = c.args.regs.now.esa in
    let below : i < c.args.cells = omega (arith, c.loop-i-test.true, c.from-i-end.ensures) in
    let few : c.args.before + i < 64 = omega (arith, below, c.requires.few) in
    let place : 8 + c.from-from.result + i ≡ 8 + (c.args.before + i) = omega (arith, c.from-from.ensures) in
    let address : c.cell-address.result ≡ cell_address esa c.args.self.now.offset = c.cell-address.ensures in
    let page : c.page-page.result.now ≡ page_bytes c.args.memory.now (page_of (cell_address esa c.args.self.now.offset)) = rw (c.page_of.ensures, address) at c.page-page.ensures.bytes in
    let at : c.from-at.result ≡ cell_address esa c.args.self.now.offset % 256 = rw address at c.from-at.ensures in
    let pair : c.pair_in-pair.result ≡ cell_pair c.args.memory.now (cell_address esa (after_cells c.args.self.now c.args.regs.now.edl i).offset) =
    rw (page, at) at c.pair_in-pair.ensures ∙ neighbour_pair c.args.memory.now esa c.args.regs.now.edl c.args.cells i c.args.self.now c.requires.neighbours below in
    let own : (s : EchoState) → c.args.self.now ≡ after_cells s c.args.regs.now.edl c.args.before
    → c.pair_in-pair.result ≡ cell_pair c.args.memory.now (cell_address esa (after_cells s c.args.regs.now.edl (c.args.before + i)).offset) =
    λ s is. pair ∙ ap (λ (t : EchoState). cell_pair c.args.memory.now (cell_address esa t.offset)) (ap (λ (t : EchoState). after_cells t c.args.regs.now.edl i) is ∙ sym (after_cells-add s c.args.regs.now.edl c.args.before i)) in
    let whole_left : to_z w16 (of_z w16 c.pair_in-pair.result.left) ≡ c.pair_in-pair.result.left = search rules in
    let whole_right : to_z w16 (of_z w16 c.pair_in-pair.result.right) ≡ c.pair_in-pair.result.right = search rules in
    record {
      left = λ s is before. rw whole_left (cell_more (λ pair. pair.left) s c.args.regs.now c.args.memory.now c.loop-i.left (c.args.before + i) (c.args.before + (i + 1)) (8 + (c.args.before + (i + 1)))
          (8 + c.from-from.result + i) (after_cells s c.args.regs.now.edl (c.args.before + i)) c.pair_in-pair.result.left c.loop-i.invariant.long_left few (omega arith) (omega arith) place refl
          (ap (λ (pair : Frame). pair.left) (own s is)) (c.loop-i.invariant.left s is before));
      right = λ s is before. rw whole_right (cell_more (λ pair. pair.right) s c.args.regs.now c.args.memory.now c.loop-i.right (c.args.before + i) (c.args.before + (i + 1)) (8 + (c.args.before + (i + 1)))
          (8 + c.from-from.result + i) (after_cells s c.args.regs.now.edl (c.args.before + i)) c.pair_in-pair.result.right c.loop-i.invariant.long_right few (omega arith) (omega arith) place refl
          (ap (λ (pair : Frame). pair.right) (own s is)) (c.loop-i.invariant.right s is before));
      long_left = length-set c.loop-i.left (8 + c.from-from.result + i) (to_z w16 (of_z w16 c.pair_in-pair.result.left)) ∙ c.loop-i.invariant.long_left;
      long_right = length-set c.loop-i.right (8 + c.from-from.result + i) (to_z w16 (of_z w16 c.pair_in-pair.result.right)) ∙ c.loop-i.invariant.long_right;
    }
