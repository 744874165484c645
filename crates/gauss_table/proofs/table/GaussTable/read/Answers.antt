use Rattle.std.proofs.Common.{◌≡◌, ◌*◌, length, arith, ◌∙◌}
use Rattle.gauss_table.proofs.Reading.{read_words, weights_of_words}
use Rattle.gauss_table.proofs.table.GaussTable.read.Goals as goal

pub returns-clause-table : goal.returns-clause-table
returns-clause-table c =
    let pairs : length c.args.bytes.now ≡ 2 * length c.read_i16_into.new.dst = omega (arith, c.read_i16_into.auto.dst) in
    let words = c.in_ok-from_weights.ensures ∙ read_words c.args.bytes.now c.read_i16_into.new.dst pairs c.read_i16_into.ensures in
    weights_of_words c.args.bytes.now _ (omega arith) words
