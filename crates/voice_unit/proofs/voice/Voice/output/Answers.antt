use Rattle.std.proofs.Common.{◌≡◌, arith}
use Rattle.voice_unit.proofs.Silence.{output-silent}
use Rattle.voice_unit.proofs.voice.Voice.output.Goals as goal

pub returns-then-level-eq0 : goal.returns-then-level-eq0
returns-then-level-eq0 c =
    let quiet : c.args.self.now.envelope.level ≡ 0 = omega arith in
    output-silent c.args.self.now c.args.input.now c.args.table.now quiet
