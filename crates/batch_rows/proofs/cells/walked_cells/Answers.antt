use Rattle.std.proofs.Common.{sym, add-one, arith}
use Rattle.reach_map.proofs.ChainEntries.{chain_entry-zero, chain_entry-suc}
use Rattle.batch_rows.specs.CellLine.{line_from}
use Rattle.batch_rows.proofs.CellLine.{one_block_more}
use Rattle.batch_rows.proofs.cells.walked_cells.Goals as goal

pub walk-init : goal.walk-init
walk-init c = record {
  few = omega arith;
  turns = omega arith;
  block = sym (chain_entry-zero c.args.memory.now c.args.chain);
  missed = λ k below pace. absurd (omega arith);
}

pub walk-preserved : goal.walk-preserved
walk-preserved c = record {
  few = omega arith;
  turns = omega arith;
  block = rw (c.next_block-block.ensures, c.get.ensures, c.walk.invariant.block, add-one) (sym (chain_entry-suc c.args.memory.now c.args.chain c.walk.i));
  missed = one_block_more (line_from c.args.first) c.args.memory.now c.args.chain c.walk.i c.walk.left c.cells_before-before.result _ c.walk.invariant.missed
      (rw c.walk.invariant.block at c.cells_before-before.ensures.miss) (omega arith) (λ reached. omega (arith, reached));
}

pub returns-clause-miss : goal.returns-clause-miss
returns-clause-miss c i pace = c.walk.invariant.missed i (omega (arith, pace, c.walk-test.false)) pace
