use Rattle.std.proofs.Common.{◌≡◌, length, take}
use Rattle.echo_unit.specs.EchoOverBatch.{echo_over_sums}
use Rattle.echo_unit.proofs.echo.Echo.play_each.Given as goal

abbrev pub invariant-loop-j : goal.invariant-loop-j
invariant-loop-j l =
    let batch = echo_over_sums l.regs l.sums l.initial.self l.initial.memory l.j in
    record { echo : l.self ≡ batch.echo; memory : l.memory ≡ batch.memory; frames : take l.j l.frames ≡ batch.frames; long : length l.frames ≡ 64 }
