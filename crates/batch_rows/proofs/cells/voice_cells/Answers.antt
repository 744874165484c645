use Rattle.std.proofs.Common.{rules, ◌≡◌, false, sym, ◌∙◌, arith}
use Rattle.std.proofs.lemmas.Bool.{true≢false}
use Rattle.dsp_state.specs.Reach.{voice_entry, own_chain, start_chain}
use Rattle.reach_laws.specs.CellsMiss.{CellsMiss, CellsMissChain}
use Rattle.batch_rows.specs.CellLine.{line_from}
use Rattle.batch_rows.proofs.CellLine.{fewer_cells, fewer_of_chain}
use Rattle.batch_rows.proofs.cells.voice_cells.Goals as goal

pub returns-then-not-starts-clause-miss : goal.returns-then-not-starts-clause-miss
returns-then-not-starts-clause-miss c =
    let still : c.can_start-starts.result ≡ false = search rules in
    let entry : CellsMiss (line_from c.args.first) c.cells_before-entry.result (voice_entry c.args.state.now.registers c.args.v) 4 =
    rw (c.entry_address.ensures, c.voice_register-srcn.ensures) at c.cells_before-entry.ensures.miss in
    let own : CellsMissChain (line_from c.args.first) c.args.memory.now c.chain_cells-own.result (own_chain c.args.state.now c.args.memory.now c.args.v c.args.voice.now) =
    rw (c.block-block.ensures, c.loop_word-loop_word.ensures, c.voice_register-srcn.ensures) at c.chain_cells-own.ensures.miss in
    record {
      entry = fewer_cells (line_from c.args.first) c.chain_cells-own.result c.cells_before-entry.result _ 4 c.chain_cells-own.ensures.few entry;
      own = own;
      start = λ starts. absurd (true≢false (sym starts ∙ sym c.can_start-starts.ensures ∙ still));
    }

pub returns-clause-miss : goal.returns-clause-miss
returns-clause-miss c =
    let entry : CellsMiss (line_from c.args.first) c.cells_before-entry.result (voice_entry c.args.state.now.registers c.args.v) 4 =
    rw (c.entry_address.ensures, c.voice_register-srcn.ensures) at c.cells_before-entry.ensures.miss in
    let own : CellsMissChain (line_from c.args.first) c.args.memory.now c.chain_cells-own.result (own_chain c.args.state.now c.args.memory.now c.args.v c.args.voice.now) =
    rw (c.block-block.ensures, c.loop_word-loop_word.ensures, c.voice_register-srcn.ensures) at c.chain_cells-own.ensures.miss in
    let start : CellsMissChain (line_from c.args.first) c.args.memory.now c.chain_cells.result (start_chain c.args.state.now c.args.memory.now c.args.v) =
    rw (c.start_word-block.ensures, c.loop_word-loop_word.ensures, c.voice_register-srcn.ensures) at c.chain_cells.ensures.miss in
    record {
      entry = fewer_cells (line_from c.args.first) c.chain_cells.result c.cells_before-entry.result _ 4 (omega (arith, c.chain_cells-own.ensures.few, c.chain_cells.ensures.few)) entry;
      own = fewer_of_chain (line_from c.args.first) c.args.memory.now c.chain_cells.result c.chain_cells-own.result _ c.chain_cells.ensures.few own;
      start = λ starts. start;
    }
