-- Samples times a number that is given as a whole number and 65,536ths.
use Rattle.std.specs.Prelude.{ℤ, ◌+ℤ◌, ◌*ℤ◌}
use Rattle.num_fix.specs.Arithmetic.{scaled}
use Rattle.echo_unit.specs.declared.parts.Parts.{Parts}

-- a sample times a number, rounded down
abbrev pub by_parts : (sample : ℤ) → (number : Parts) → ℤ
by_parts sample number = scaled sample number.part 16 +ℤ sample *ℤ number.whole
