use Rattle.std.proofs.Common.{◌≡◌, ℕ, ap, ◌∙◌, arith}
use Rattle.spc700_table.specs.Opcodes.{row_of}
use Rattle.spc700_exec.specs.Script.{after_rest}
use Rattle.spc700_exec.specs.Pieces.{access_count}
use Rattle.spc700_exec.proofs.Whole.{whole_by_rest}
use Rattle.spc700_exec.proofs.access_counts.end_instruction.Goals as goal

pub returns-clause-whole : goal.returns-clause-whole
returns-clause-whole g c = λ before after old runs made.
    let bus = g.B.Bus.means in
    let op = c.args.op in
    let cycles = c.args.cycles in
    let mid = c.args.bus.now in
    let rest : c.pass_rest.new.bus ≡ after_rest bus cycles (access_count (row_of op)) mid =
    c.pass_rest.ensures ∙ ap (λ (k : ℕ). after_rest bus cycles k mid) c.access_count.ensures in
    whole_by_rest bus g.met.B.Bus.lawful op before after old mid c.pass_rest.new.bus cycles (omega arith) runs rest made
