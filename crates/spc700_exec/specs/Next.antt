-- The instruction list as questions: what comes next, by what was read and written so far.
use Rattle.std.specs.Prelude.{ℕ, zero, suc, ◌+◌, List, [], ◌∷◌, ◌++◌, Option, Some, None}
use Rattle.spc700_exec.specs.declared.cpu.Cpu.{Cpu}
use Rattle.spc700_exec.specs.Bus.{BusMeaning, byte_read, after_read, after_write}
use Rattle.spc700_exec.specs.Script.{Script, Read, Write, End, Time, cycles_at, after_rest}
use Rattle.spc700_exec.specs.Instruction.{script}

-- what an instruction does next: a read of an address, a write of a byte to an address, or its end with the new registers
-- and its cycles
pub data Action : Type 0 where
  ReadAt : (at : ℕ) → Action
  WriteAt : (at value : ℕ) → Action
  Ends : Cpu → Time → Action

-- what a script does next, by the bytes read so far and the number of writes made so far
abbrev pub action : Script → (got : List ℕ) → (puts : ℕ) → Action
action (Read at next) [] puts = ReadAt at
action (Read at next) (byte ∷ got) puts = action (next byte) got puts
action (Write at value next) got zero = WriteAt at value
action (Write at value next) got (suc puts) = action next got puts
action (End cpu time) got puts = Ends cpu time

-- what a step does next, by the registers at its start
abbrev pub next_action : Cpu → (got : List ℕ) → (puts : ℕ) → Action
next_action cpu got puts = action (script cpu) got puts

-- a choice by an action
abbrev pub by_action : {R : Type 0} → (ℕ → R) → (ℕ → ℕ → R) → (Cpu → Time → R) → Action → R
by_action read write end (ReadAt at) = read at
by_action read write end (WriteAt at value) = write at value
by_action read write end (Ends cpu time) = end cpu time

-- a machine that asks what comes next after each access, at most n times
abbrev pub driven_outcome : {S : Type 0} → (n : ℕ) → BusMeaning S → (start made : ℕ) → (List ℕ → ℕ → Action)
    → (got : List ℕ) → (puts : ℕ) → S → Option (Cpu × S)
driven_outcome zero bus start made ask got puts s = None
driven_outcome (suc n) bus start made ask got puts s =
    by_action
    (λ at. driven_outcome n bus start (made + 1) ask (got ++ byte_read bus at s ∷ []) puts (after_read bus at s))
    (λ at value. driven_outcome n bus start (made + 1) ask got (suc puts) (after_write bus at value s))
    (λ cpu time. Some (cpu, after_rest bus (cycles_at start time) made s))
    (ask got puts)
