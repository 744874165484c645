-- What steps do that only read, over any bus.
use Rattle.std.specs.Prelude.{◌≡◌, ◌≤◌, ℕ, zero, suc, ◌+◌, ◌*◌, ◌-◌, ◌/◌, Bool, false, true, ◌&&◌, Option, Some, None, unwrap_or, is_some}
use Rattle.spc700_exec.specs.declared.cpu.Cpu.{Cpu}
use Rattle.spc700_exec.specs.Bus.{BusMeaning}
use Rattle.spc700_exec.specs.Script.{Script, Read, Write, End, Cycles, ToSample}
use Rattle.spc700_exec.specs.Instruction.{script, step_outcome}
use Rattle.spc700_exec.specs.declared.bus.TheConstants.{CYCLES_PER_SAMPLE}

-- what follows something, if it is there
abbrev pub then_if : {A X : Type 0} → Option A → (A → Option X) → Option X
then_if None next = None
then_if (Some a) next = next a

-- The registers after a script and its cycles, where each read is of an address of which a byte is seen, nothing is
-- written, and its cycles are a number. It made some accesses already.
abbrev pub peek_of_script : (sees : ℕ → Option ℕ) → (made : ℕ) → Script → Option (Cpu × ℕ)
peek_of_script sees made (Read at next) = then_if (sees at) (λ byte. peek_of_script sees (made + 1) (next byte))
peek_of_script sees made (Write at value next) = None
peek_of_script sees made (End cpu (Cycles n)) = Some (cpu, made + (n - made))
peek_of_script sees made (End cpu ToSample) = None

-- the same of n steps
unfoldable pub peek_of_steps : (sees : ℕ → Option ℕ) → (n : ℕ) → Cpu → Option (Cpu × ℕ)
peek_of_steps sees zero cpu = Some (cpu, 0)
peek_of_steps sees (suc n) cpu =
    then_if (peek_of_steps sees n cpu) (λ before. then_if (peek_of_script sees 0 (script before.0)) (λ next. Some (next.0, before.1 + next.1)))

-- the processor and the bus after n steps
unfoldable pub after_n_steps : {S : Type 0} → BusMeaning S → (n : ℕ) → Cpu × S → Cpu × S
after_n_steps bus zero w = w
after_n_steps bus (suc n) w = let before = after_n_steps bus n w in step_outcome bus before.0 before.1

-- A bus that is only read for some cycles: `waited n` is the bus after n cycles, `bare` what counts of a bus.
pub record IsOnlyRead {S : Type 0} (bus : BusMeaning S) (bare : S → S) (sees : ℕ → Option ℕ) (most : ℕ) (waited : ℕ → S) : Type 0 where
  pub pass : (s : S) (n cycles : ℕ) → bare s ≡ bare (waited n) → 1 ≤ cycles → cycles ≤ CYCLES_PER_SAMPLE → n + cycles ≤ most →
      bare (bus.pass s cycles) ≡ bare (waited (n + cycles))
  pub byte : (s : S) (n at byte : ℕ) → bare s ≡ bare (waited n) → n ≤ most → sees at ≡ Some byte → (bus.read s at).0 ≡ byte
  pub read : (s : S) (n at byte : ℕ) → bare s ≡ bare (waited n) → n ≤ most → sees at ≡ Some byte → bare (bus.read s at).1 ≡ bare (waited n)

-- Where n steps from some registers only read, bring the registers back and take d cycles, k such iterations leave the registers, and leave
-- of the bus what k * d cycles of waiting leave, if it may be waited on so long.
abbrev pub IterationsOnlyWait : {S : Type 0} → BusMeaning S → Type 0
IterationsOnlyWait {S} bus = (bare : S → S) (sees : ℕ → Option ℕ) (most : ℕ) (waited : ℕ → S) (k n d : ℕ) (cpu : Cpu) (s : S) →
    IsOnlyRead bus bare sees most waited → bare s ≡ bare (waited 0) → peek_of_steps sees n cpu ≡ Some (cpu, d) → k * d ≤ most →
    ((after_n_steps bus (k * n) (cpu, s)).0 ≡ cpu) × (bare (after_n_steps bus (k * n) (cpu, s)).1 ≡ bare (waited (k * d)))

-- A read-only bus: so far each read was of an address of which a byte is seen, and nothing was written.
pub record Peek (L : Type 0) : Type 0 where
  pub from : L
  pub idle : Bool
  pub clock : ℕ
  pub calls : ℕ

abbrev pub peek_meaning : {L : Type 0} → (sees : L → ℕ → Option ℕ) → BusMeaning (Peek L)
peek_meaning sees = record {
  read = λ s at. (unwrap_or (sees s.from at) 0, record s { idle = s.idle && is_some (sees s.from at); calls = s.calls + 1 });
  write = λ s at value. record s { idle = false; calls = s.calls + 1 };
  pass = λ s cycles. record s { clock = s.clock + cycles; calls = s.calls + 1 };
  calls = λ s. s.calls;
  clock = λ s. s.clock;
  due = λ s. s.clock / CYCLES_PER_SAMPLE;
}

-- where the cycles of a script are those to the next sample, the processor halted
abbrev pub HaltsToSample : Script → Type 0
HaltsToSample (Read at next) = (byte : ℕ) → HaltsToSample (next byte)
HaltsToSample (Write at value next) = HaltsToSample next
HaltsToSample (End cpu (Cycles n)) = Unit {0}
HaltsToSample (End cpu ToSample) = cpu.halted ≡ true
