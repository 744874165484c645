use Rattle.std.proofs.Common.{◌≡◌, true, false, sym, ◌∙◌}
use Rattle.aram_core.specs.Pages.{has_page}
use Rattle.reach_map.specs.Reach.{chain_pages, entry_pages}
use Rattle.dsp_state.specs.Reach.{voice_entry, own_chain, start_chain}
use Rattle.dsp_state.proofs.ReadPages.{reads_by_entry, reads_by_own_chain, reads_by_none, reads_by_start_chain}
use Rattle.dsp_state.proofs.state.ChipState.voice_reads.Goals as goal

pub returns-then-entry_has_page : goal.returns-then-entry_has_page
returns-then-entry_has_page c =
    let entry : true ≡ has_page (entry_pages (voice_entry c.args.self.now.registers c.args.v)) c.args.page =
    rw (c.entry_address.ensures, c.voice_register-srcn.ensures) at (sym c.if-entry_has_page.true ∙ c.entry_has_page.ensures) in
    reads_by_entry c.args.self.now c.args.memory.now c.args.v c.args.voice.now c.args.page entry

pub returns-then-chain_has_page : goal.returns-then-chain_has_page
returns-then-chain_has_page c =
    let entry : false ≡ has_page (entry_pages (voice_entry c.args.self.now.registers c.args.v)) c.args.page =
    rw (c.entry_address.ensures, c.voice_register-srcn.ensures) at (sym c.if-entry_has_page.false ∙ c.entry_has_page.ensures) in
    let own : true ≡ has_page (chain_pages c.args.memory.now (own_chain c.args.self.now c.args.memory.now c.args.v c.args.voice.now)) c.args.page =
    rw (c.block-block.ensures, c.loop_word-loop_word.ensures, c.voice_register-srcn.ensures) at (sym c.if-chain_has_page.true ∙ c.chain_has_page.ensures) in
    reads_by_own_chain c.args.self.now c.args.memory.now c.args.v c.args.voice.now c.args.page entry own

pub returns-then-not-can_start : goal.returns-then-not-can_start
returns-then-not-can_start c =
    let entry : false ≡ has_page (entry_pages (voice_entry c.args.self.now.registers c.args.v)) c.args.page =
    rw (c.entry_address.ensures, c.voice_register-srcn.ensures) at (sym c.if-entry_has_page.false ∙ c.entry_has_page.ensures) in
    let own : false ≡ has_page (chain_pages c.args.memory.now (own_chain c.args.self.now c.args.memory.now c.args.v c.args.voice.now)) c.args.page =
    rw (c.block-block.ensures, c.loop_word-loop_word.ensures, c.voice_register-srcn.ensures) at (sym c.if-chain_has_page.false ∙ c.chain_has_page.ensures) in
    reads_by_none c.args.self.now c.args.memory.now c.args.v c.args.voice.now c.args.page entry own (sym c.if-not-can_start.true ∙ c.can_start.ensures)

pub returns : goal.returns
returns c =
    let entry : false ≡ has_page (entry_pages (voice_entry c.args.self.now.registers c.args.v)) c.args.page =
    rw (c.entry_address.ensures, c.voice_register-srcn.ensures) at (sym c.if-entry_has_page.false ∙ c.entry_has_page.ensures) in
    let own : false ≡ has_page (chain_pages c.args.memory.now (own_chain c.args.self.now c.args.memory.now c.args.v c.args.voice.now)) c.args.page =
    rw (c.block-block.ensures, c.loop_word-loop_word.ensures, c.voice_register-srcn.ensures) at (sym c.if-chain_has_page.false ∙ c.chain_has_page.ensures) in
    let start : c.chain_has_page-2.result ≡ has_page (chain_pages c.args.memory.now (start_chain c.args.self.now c.args.memory.now c.args.v)) c.args.page =
    rw (c.start_word-block.ensures, c.loop_word-loop_word.ensures, c.voice_register-srcn.ensures) at c.chain_has_page-2.ensures in
    reads_by_start_chain c.args.self.now c.args.memory.now c.args.v c.args.voice.now c.args.page c.chain_has_page-2.result entry own (sym c.if-not-can_start.false ∙ c.can_start.ensures) start
