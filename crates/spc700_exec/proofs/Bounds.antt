-- At most how many calls of the bus a step makes, and how far it moves the clock.
use Rattle.std.proofs.Common.{◌≡◌, ℕ, zero, suc, ◌+◌, ◌-◌, ◌*◌, ◌%◌, ◌≤◌, Bool, true, false, nat_lt, sym, subst, arith}
use Rattle.std.specs.Prelude.{if◌then◌else◌}
use Rattle.std.proofs.lemmas.Bool.Decides.{nat_tests}
use Rattle.spc700_table.specs.Opcodes.{row_of}
use Rattle.spc700_exec.specs.declared.cpu.Cpu.{Cpu}
use Rattle.spc700_exec.specs.Bus.{BusMeaning, IsLawful, byte_read, after_read, after_write}
use Rattle.spc700_exec.specs.Script.{Script, Read, Write, End, Time, Cycles, ToSample, cycles_at, after_rest, outcome}
use Rattle.spc700_exec.specs.Operands.{with_next_pc}
use Rattle.spc700_exec.specs.Instruction.{instruction, step_unless, script, step_outcome}
use Rattle.spc700_exec.specs.Length.{IsShort}
use Rattle.spc700_exec.proofs.ByClock.{clock-after_read, clock-after_write}
use Rattle.spc700_exec.proofs.Short.{IsShort-script}
use Rattle.spc700_exec.specs.declared.bus.TheConstants.{CYCLES_PER_SAMPLE}

module _ {S : Type 0} (bus : BusMeaning S) (law : IsLawful bus) where
  calls-either : (s : S) (b : Bool) (cycles : ℕ) → bus.calls (if b then bus.pass s cycles else s) ≤ bus.calls s + 1
  calls-either s true cycles = let passed = law.pass_calls s cycles in omega arith
  calls-either s false cycles = omega arith

  calls-after_read : (at : ℕ) (s : S) → bus.calls (after_read bus at s) ≡ bus.calls s + 2
  calls-after_read at s =
      let passed = law.pass_calls s 1 in
      let read = law.read_calls (bus.pass s 1) at in
      omega arith

  calls-after_write : (at value : ℕ) (s : S) → bus.calls (after_write bus at value s) ≡ bus.calls s + 2
  calls-after_write at value s =
      let passed = law.pass_calls s 1 in
      let written = law.write_calls (bus.pass s 1) at value in
      omega arith

  calls-outcome : (n : ℕ) (t : Script) (start made : ℕ) (s : S) → IsShort n t → bus.calls (outcome bus start made t s).1 ≤ bus.calls s + 2 * n + 1
  calls-outcome zero (Read at next) start made s h = absurd h
  calls-outcome (suc n) (Read at next) start made s h =
      let moved = calls-after_read at s in
      let rest = calls-outcome n (next (byte_read bus at s)) start (made + 1) (after_read bus at s) (h (byte_read bus at s)) in
      omega arith
  calls-outcome zero (Write at value next) start made s h = absurd h
  calls-outcome (suc n) (Write at value next) start made s h =
      let moved = calls-after_write at value s in
      let rest = calls-outcome n next start (made + 1) (after_write bus at value s) h in
      omega arith
  calls-outcome zero (End cpu time) start made s h =
      let rest = calls-either s (nat_lt made (cycles_at start time)) (cycles_at start time - made) in
      omega arith
  calls-outcome (suc n) (End cpu time) start made s h =
      let rest = calls-either s (nat_lt made (cycles_at start time)) (cycles_at start time - made) in
      omega arith

  pub calls-step_outcome : (cpu : Cpu) (s : S) → bus.calls (step_outcome bus cpu s).1 ≤ bus.calls s + 13
  calls-step_outcome cpu s = let few = calls-outcome 6 (script cpu) (bus.clock s) 0 s (IsShort-script cpu) in omega arith

  -- the clock: a step passes at least one cycle, and at most 32
  clock-either : (s : S) (b : Bool) (cycles : ℕ) → bus.clock s ≤ bus.clock (if b then bus.pass s cycles else s)
  clock-either s true cycles = let passed = law.pass_clock s cycles in omega arith
  clock-either s false cycles = omega arith

  clock-either-most : (s : S) (b : Bool) (cycles : ℕ) → bus.clock (if b then bus.pass s cycles else s) ≤ bus.clock s + cycles
  clock-either-most s true cycles = let passed = law.pass_clock s cycles in omega arith
  clock-either-most s false cycles = omega arith

  clock-outcome : (t : Script) (start made : ℕ) (s : S) → bus.clock s ≤ bus.clock (outcome bus start made t s).1
  clock-outcome (Read at next) start made s =
      let moved = clock-after_read bus law at s in
      let rest = clock-outcome (next (byte_read bus at s)) start (made + 1) (after_read bus at s) in
      omega arith
  clock-outcome (Write at value next) start made s =
      let moved = clock-after_write bus law at value s in
      let rest = clock-outcome next start (made + 1) (after_write bus at value s) in
      omega arith
  clock-outcome (End cpu time) start made s = clock-either s (nat_lt made (cycles_at start time)) (cycles_at start time - made)

  few_cycles : (n start : ℕ) (cpu : Cpu) (time : Time) → IsShort n (End cpu time) → cycles_at start time ≤ CYCLES_PER_SAMPLE
  few_cycles zero start cpu (Cycles c) h = h
  few_cycles (suc n) start cpu (Cycles c) h = h
  few_cycles n start cpu ToSample h = omega arith

  clock-outcome-most : (n : ℕ) (t : Script) (start made : ℕ) (s : S) → bus.clock s ≡ start + made → made + n ≤ CYCLES_PER_SAMPLE → IsShort n t → bus.clock (outcome bus start made t s).1 ≤ start + CYCLES_PER_SAMPLE
  clock-outcome-most zero (Read at next) start made s e few h = absurd h
  clock-outcome-most (suc n) (Read at next) start made s e few h =
      let moved = clock-after_read bus law at s in
      clock-outcome-most n (next (byte_read bus at s)) start (made + 1) (after_read bus at s) (omega arith) (omega arith) (h (byte_read bus at s))
  clock-outcome-most zero (Write at value next) start made s e few h = absurd h
  clock-outcome-most (suc n) (Write at value next) start made s e few h =
      let moved = clock-after_write bus law at value s in
      clock-outcome-most n next start (made + 1) (after_write bus at value s) (omega arith) (omega arith) h
  clock-outcome-most n (End cpu time) start made s e few h =
      let most = clock-either-most s (nat_lt made (cycles_at start time)) (cycles_at start time - made) in
      let cycles = few_cycles n start cpu time h in
      omega arith

  pub clock-step_outcome-most : (cpu : Cpu) (s : S) → bus.clock (step_outcome bus cpu s).1 ≤ bus.clock s + CYCLES_PER_SAMPLE
  clock-step_outcome-most cpu s = clock-outcome-most 6 (script cpu) (bus.clock s) 0 s (omega arith) (omega arith) (IsShort-script cpu)

  rest_passes : (s : S) (c : ℕ) → 1 ≤ c → bus.clock s + 1 ≤ bus.clock (after_rest bus c 0 s)
  rest_passes s zero some = absurd (omega arith)
  rest_passes s (suc c) some =
      let passed = law.pass_clock s (suc c - 0) in
      let test : nat_lt 0 (suc c) ≡ true = grind (arith, nat_tests) in
      let goes : bus.clock s + 1 ≤ bus.clock (bus.pass s (suc c - 0)) = omega arith in
      subst (λ (b : Bool). bus.clock s + 1 ≤ bus.clock (if b then bus.pass s (suc c - 0) else s)) (sym test) goes

  clock-step_unless : (halted : Bool) (cpu : Cpu) (s : S) → bus.clock s + 1 ≤ bus.clock (outcome bus (bus.clock s) 0 (step_unless halted cpu) s).1
  clock-step_unless true cpu s = rest_passes s (CYCLES_PER_SAMPLE - bus.clock s % CYCLES_PER_SAMPLE) (omega arith)
  clock-step_unless false cpu s =
      let moved = clock-after_read bus law cpu.pc s in
      let opcode = byte_read bus cpu.pc s in
      let rest = clock-outcome (instruction (row_of opcode) (with_next_pc cpu)) (bus.clock s) 1 (after_read bus cpu.pc s) in
      omega arith

  pub clock-step_outcome-least : (cpu : Cpu) (s : S) → bus.clock s + 1 ≤ bus.clock (step_outcome bus cpu s).1
  clock-step_outcome-least cpu s = clock-step_unless cpu.halted cpu s
