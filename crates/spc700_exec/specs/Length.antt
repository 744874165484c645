-- At most how many accesses and cycles a script has.
use Rattle.std.specs.Prelude.{ℕ, zero, suc, ◌≤◌}
use Rattle.spc700_exec.specs.Script.{Script, Read, Write, End, Cycles, ToSample}
use Rattle.spc700_exec.specs.declared.bus.TheConstants.{CYCLES_PER_SAMPLE}

-- at most n accesses, and then at most the cycles of a sample
abbrev pub IsShort : (n : ℕ) → Script → Type 0
IsShort zero (Read at next) = ⊥
IsShort (suc n) (Read at next) = (byte : ℕ) → IsShort n (next byte)
IsShort zero (Write at value next) = ⊥
IsShort (suc n) (Write at value next) = IsShort n next
IsShort n (End cpu (Cycles cycles)) = cycles ≤ CYCLES_PER_SAMPLE
IsShort n (End cpu ToSample) = Unit {0}
