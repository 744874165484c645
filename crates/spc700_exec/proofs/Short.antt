-- A step is short: it makes at most 6 accesses, and its cycles are at most 32.
use Rattle.std.proofs.Common.{◌≡◌, ◌⊎◌, ℕ, zero, suc, ◌+◌, ◌≤◌, List, [], ◌∷◌, length, Bool, true, false, sym, subst, inl, inr, arith}
use Rattle.std.proofs.lemmas.Bool.{cases_lt}
use Rattle.spc700_table.specs.declared.OpRow.{OpRow}
use Rattle.spc700_table.specs.Opcodes.{row_of}
use Rattle.spc700_exec.specs.declared.cpu.Cpu.{Cpu}
use Rattle.spc700_exec.specs.Script.{Script, Read, Write, End, Cycles, ToSample}
use Rattle.spc700_exec.specs.Instruction.{instruction, step_unless, script}
use Rattle.spc700_exec.specs.Accesses.{Access, Progress, begun, after_access, Makes, row_accesses}
use Rattle.spc700_exec.specs.Length.{IsShort}
use Rattle.spc700_exec.proofs.Steady.{IsListed}
use Rattle.spc700_exec.proofs.Beyond.{beyond, row_of-beyond, row_operation, IsListed-row_of}
use Rattle.spc700_exec.proofs.Makes.{Makes-line_of}
use Rattle.spc700_exec.proofs.EveryRow.{row_accesses-few, row_cycles-few}
use Rattle.spc700_exec.specs.declared.bus.TheConstants.{CYCLES_PER_SAMPLE}

-- what a row that isn't long keeps
record IsBrief (row : OpRow) : Type 0 where
  accesses : length (row_accesses row) + 1 ≤ 6
  cycles : row.cycles ≤ CYCLES_PER_SAMPLE
  taken : row.taken ≤ CYCLES_PER_SAMPLE

either_few : (n a b : ℕ) → (n ≡ a) ⊎ (n ≡ b) → a ≤ CYCLES_PER_SAMPLE → b ≤ CYCLES_PER_SAMPLE → n ≤ CYCLES_PER_SAMPLE
either_few n a b (inl e) ha hb = omega arith
either_few n a b (inr e) ha hb = omega arith

IsShort-from_Makes : (row : OpRow) (start : Cpu) (p : Progress) (n : ℕ) (accesses : List Access) (t : Script) → IsBrief row → length accesses ≤ n → Makes row start p accesses t → IsShort n t
IsShort-from_Makes row start p zero [] (End cpu (Cycles c)) b h m = either_few c row.cycles row.taken m b.cycles b.taken
IsShort-from_Makes row start p (suc n) [] (End cpu (Cycles c)) b h m = either_few c row.cycles row.taken m b.cycles b.taken
IsShort-from_Makes row start p zero [] (End cpu ToSample) b h m = tt
IsShort-from_Makes row start p (suc n) [] (End cpu ToSample) b h m = tt
IsShort-from_Makes row start p n [] (Read at next) b h m = absurd m
IsShort-from_Makes row start p n [] (Write at value next) b h m = absurd m
IsShort-from_Makes row start p n (access ∷ accesses) (End cpu time) b h m = absurd m
IsShort-from_Makes row start p zero (access ∷ accesses) (Read at next) b h m = absurd (omega arith)
IsShort-from_Makes row start p (suc n) (access ∷ accesses) (Read at next) b h m =
    λ byte. IsShort-from_Makes row start (after_access access byte p) n accesses (next byte) b (omega arith) (m.1 byte)
IsShort-from_Makes row start p zero (access ∷ accesses) (Write at value next) b h m = absurd (omega arith)
IsShort-from_Makes row start p (suc n) (access ∷ accesses) (Write at value next) b h m =
    IsShort-from_Makes row start (after_access access value p) n accesses next b (omega arith) m.1

IsBrief-beyond : IsBrief beyond
IsBrief-beyond = record { accesses = omega arith; cycles = omega arith; taken = omega arith }

IsBrief-row_of : (op : ℕ) → IsBrief (row_of op)
IsBrief-row_of op = elim (cases_lt op 256) [
  | inl below ↦
      let counts = row_cycles-few op below in
      let cycles : (row_of op).cycles ≤ CYCLES_PER_SAMPLE = omega (arith, counts.0, counts.1) in
      let taken : (row_of op).taken ≤ CYCLES_PER_SAMPLE = omega (arith, counts.1) in
      record { accesses = row_accesses-few op below; cycles = cycles; taken = taken }
  | inr far ↦ subst (λ (row : OpRow). IsBrief row) (sym (row_of-beyond op far)) IsBrief-beyond
]

IsShort-instruction : (row : OpRow) (cpu : Cpu) → IsListed row (row_operation row) → IsBrief row → IsShort 5 (instruction row cpu)
IsShort-instruction row cpu listed brief =
    let few = brief.accesses in
    IsShort-from_Makes row cpu (begun cpu) 5 (row_accesses row) (instruction row cpu) brief (omega arith) (Makes-line_of row cpu (row_operation row) listed)

IsShort-step_unless : (halted : Bool) (cpu : Cpu) → IsShort 6 (step_unless halted cpu)
IsShort-step_unless true cpu = tt
IsShort-step_unless false cpu = λ op. IsShort-instruction (row_of op) _ (IsListed-row_of op) (IsBrief-row_of op)

pub IsShort-script : (cpu : Cpu) → IsShort 6 (script cpu)
IsShort-script cpu = IsShort-step_unless cpu.halted cpu
