use Rattle.std.proofs.Common.{rules, ◌≡◌, length, take, true, ap, sym, ◌∙◌}
use Rattle.echo_unit.specs.Echo.{EchoState, is_at_cell}
use Rattle.echo_unit.specs.EchoOverBatch.{main_of, sent_of, echo_over_sums}
use Rattle.echo_unit.specs.Cells.{after_cells}
use Rattle.echo_unit.proofs.RunByRows.{IsPlayed, reads_first, run_by_rows}
use Rattle.echo_unit.proofs.echo.Echo.play_rows.Goals as goal

pub returns : goal.returns
returns c =
    let at : is_at_cell c.args.self.now ≡ true = c.read_cells-next.ensures.at_cell in
    let eight : length c.args.self.now.history ≡ 8 = c.read_cells-next.ensures.eight in
    let pairs : length c.last_pairs.result ≡ 8 = search rules in
    let count : length c.output_row.result ≡ 64 = search rules in
    let played : IsPlayed c.args.regs.now (main_of c.args.sums.now) (sent_of c.args.sums.now) c.args.self.now c.args.memory.now
    c.write_back.new.memory c.args.n c.read_cells-next.new.left c.read_cells-next.new.right c.filtered_row.result c.filtered_row-2.result c.last_pairs.result c.output_row.result =
    record {
      first = reads_first c.args.regs.now c.args.self.now c.args.n at c.requires.few c.requires.apart;
      eight = eight;
      few = c.requires.few;
      left_is = c.read_cells-next.ensures.left;
      right_is = c.read_cells-next.ensures.right;
      heard_left_is = c.filtered_row.ensures;
      heard_right_is = c.filtered_row-2.ensures;
      on = c.write_back.ensures.on;
      off = c.write_back.ensures.off;
      pairs = pairs;
      history_is = c.last_pairs.ensures;
      count = count;
      frames_are = c.output_row.ensures;
    } in
    let echo : c.go_to.new.self ≡ record (after_cells c.args.self.now c.args.regs.now.edl c.args.n) { history = c.last_pairs.result } = rw c.read_cells-next.ensures.echo at c.go_to.ensures in
    let batch : echo_over_sums c.args.regs.now c.args.sums.now c.args.self.now c.args.memory.now c.args.n
    ≡ record { echo = c.go_to.new.self; memory = c.write_back.new.memory; frames = take c.args.n c.output_row.result } =
    run_by_rows c.args.regs.now (main_of c.args.sums.now) (sent_of c.args.sums.now) c.args.self.now c.args.memory.now
    c.write_back.new.memory c.args.n c.read_cells-next.new.left c.read_cells-next.new.right c.filtered_row.result c.filtered_row-2.result c.last_pairs.result c.output_row.result played
    ∙ ap (λ (e : EchoState). record { echo = e; memory = c.write_back.new.memory; frames = take c.args.n c.output_row.result }) (sym echo) in
    record { batch = batch }
