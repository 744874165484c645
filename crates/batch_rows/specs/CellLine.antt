-- Cells of the echo that stand one after another.
use Rattle.std.specs.Prelude.{ℕ, ◌+◌, ◌*◌}

-- Their addresses, each four bytes on from the one before. Who asks what stands there takes them modulo 65,536, as all addresses.
abbrev pub line_from : (first : ℕ) → ℕ → ℕ
line_from first j = first + 4 * j
