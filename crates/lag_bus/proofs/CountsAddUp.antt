-- One batch more for a cause: the batches stay those of the causes together.
use Rattle.std.proofs.Common.{◌-◌, ◌^◌, ◌<◌, arith}
use Rattle.lock_step.specs.declared.counts.Counts.{Counts}
use Rattle.lag_bus.specs.declared.cause.Cause.{Cause}
use Rattle.lag_bus.specs.declared.cause.Cause.TheVariants.{Register, Memory, Echo, Full, Events, End}
use Rattle.lag_bus.specs.Book.{AddsUp, counts_with_batch}

pub adds_up : (cause : Cause) (counts : Counts) → AddsUp counts → AddsUp (counts_with_batch cause counts)
adds_up Register counts h = λ g. let small : counts.batches < 2 ^ 64 - 1 = omega arith in let sum = h small in omega arith
adds_up Memory counts h = λ g. let small : counts.batches < 2 ^ 64 - 1 = omega arith in let sum = h small in omega arith
adds_up Echo counts h = λ g. let small : counts.batches < 2 ^ 64 - 1 = omega arith in let sum = h small in omega arith
adds_up Full counts h = λ g. let small : counts.batches < 2 ^ 64 - 1 = omega arith in let sum = h small in omega arith
adds_up Events counts h = λ g. let small : counts.batches < 2 ^ 64 - 1 = omega arith in let sum = h small in omega arith
adds_up End counts h = λ g. let small : counts.batches < 2 ^ 64 - 1 = omega arith in let sum = h small in omega arith
