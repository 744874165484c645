use Rattle.std.proofs.Common.{◌||◌, sym, ap, ◌∙◌}
use Rattle.dsp_state.specs.Reach.{voices_read}
use Rattle.dsp_state.proofs.ReadPages.{read_page}
use Rattle.dsp_state.proofs.state.ChipState.reads_page.Goals as goal

pub returns-then-window_has_page : goal.returns-then-window_has_page
returns-then-window_has_page c =
    c.if-window_has_page.true
    ∙ ap (λ b. b || voices_read c.args.self.now c.args.memory.now 0 c.args.self.now.hidden.voices c.args.page) (sym c.if-window_has_page.true ∙ c.window_has_page.ensures)
    ∙ sym (read_page c.args.self.now c.args.memory.now c.args.page)

pub returns-else-window_has_page : goal.returns-else-window_has_page
returns-else-window_has_page c =
    c.voices_read.ensures
    ∙ ap (λ b. b || voices_read c.args.self.now c.args.memory.now 0 c.args.self.now.hidden.voices c.args.page) (sym c.if-window_has_page.false ∙ c.window_has_page.ensures)
    ∙ sym (read_page c.args.self.now c.args.memory.now c.args.page)
