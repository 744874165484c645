use Rattle.std.proofs.Common.{◌≡◌, true, false, sym, ◌∙◌, slice_index, refl, rules}
use Rattle.echo_unit.specs.Flg.{has_echo_writes}
use Rattle.dsp_state.specs.declared.registers.TheConstants.{FLG}
use Rattle.dsp_state.proofs.ReadPages.{write_page}
use Rattle.dsp_state.proofs.state.ChipState.writes_page.Goals as goal

pub returns-then-has_echo_writes : goal.returns-then-has_echo_writes
returns-then-has_echo_writes c = λ memory.
    let on : has_echo_writes (slice_index c.args.self.now.registers FLG) ≡ true = search rules in
    c.window_has_page.ensures ∙ sym (write_page c.args.self.now memory c.args.page ∙ rw on refl)

pub returns-else-has_echo_writes : goal.returns-else-has_echo_writes
returns-else-has_echo_writes c = λ memory.
    let off : has_echo_writes (slice_index c.args.self.now.registers FLG) ≡ false = search rules in
    c.if-has_echo_writes.false ∙ sym (write_page c.args.self.now memory c.args.page ∙ rw off refl)
