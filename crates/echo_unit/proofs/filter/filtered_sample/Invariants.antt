use Rattle.std.proofs.Common.{◌≡◌, take}
use Rattle.num_fix.specs.Arithmetic.{wrap16}
use Rattle.echo_unit.specs.Fir.{signed_sum, taps, eight_from}
use Rattle.echo_unit.proofs.filter.filtered_sample.Given as goal

abbrev pub invariant-loop-i : goal.invariant-loop-i
invariant-loop-i l = l.sum ≡ wrap16 (signed_sum (take l.i (taps (eight_from l.row l.place) l.coefficients)))
