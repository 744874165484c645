-- What a step shows over a read-only bus.
use Rattle.std.proofs.Common.{◌≡◌, ℕ, suc, ◌+◌, ◌-◌, Bool, true, false, ◌&&◌, nat_lt, refl, sym, ap, ◌∙◌, arith, Option, Some, None}
use Rattle.std.proofs.lemmas.Bool.{and_parts, both_ways}
use Rattle.std.specs.Prelude.{if◌then◌else◌, unwrap_or, is_some}
use Rattle.std.proofs.lemmas.Bool.Decides.{nat_tests}
use Rattle.spc700_exec.specs.declared.cpu.Cpu.{Cpu}
use Rattle.spc700_exec.specs.Bus.{byte_read, after_read, after_write}
use Rattle.spc700_exec.specs.Script.{Script, Read, Write, End, Cycles, ToSample, cycles_at, outcome}
use Rattle.spc700_exec.specs.Instruction.{script, step_outcome}
use Rattle.idle_loops.specs.ReadOnly.{then_if, peek_of_script, peek_of_steps, Peek, peek_meaning, HaltsToSample}
use Rattle.idle_loops.proofs.Halting.{HaltsToSample-script}

-- what is seen is what a read answers
seen_then : {X : Type 0} (o : Option ℕ) (next : ℕ → Option X) (x : X) → is_some o ≡ true → next (unwrap_or o 0) ≡ Some x → then_if o next ≡ Some x
seen_then None next x h e = absurd (cc)
seen_then (Some byte) next x h e = e

module _ {L : Type 0} (sees : L → ℕ → Option ℕ) where
  idle-rest : (b : Bool) (cycles : ℕ) (s : Peek L) → (if b then (peek_meaning sees).pass s cycles else s).idle ≡ s.idle
  idle-rest true cycles s = refl
  idle-rest false cycles s = refl

  idle-outcome : (t : Script) (start made : ℕ) (s : Peek L) → (outcome (peek_meaning sees) start made t s).1.idle ≡ true → s.idle ≡ true
  idle-outcome (Read at next) start made s h =
      (and_parts s.idle (is_some (sees s.from at)) (idle-outcome (next (byte_read (peek_meaning sees) at s)) start (made + 1) (after_read (peek_meaning sees) at s) h)).0
  idle-outcome (Write at value next) start made s h =
      let off : false ≡ true = idle-outcome next start (made + 1) (after_write (peek_meaning sees) at value s) h in
      absurd (cc)
  idle-outcome (End cpu time) start made s h = sym (idle-rest (nat_lt made (cycles_at start time)) (cycles_at start time - made) s) ∙ h

  clock-rest : (b : Bool) (base made cycles : ℕ) (s : Peek L) → nat_lt made cycles ≡ b → s.clock ≡ base + made
      → (if b then (peek_meaning sees).pass s (cycles - made) else s).clock ≡ base + (made + (cycles - made))
  clock-rest true base made cycles s is e = omega arith
  clock-rest false base made cycles s is e = grind (arith, nat_tests)

  peek_of_script-outcome : (t : Script) (start base made : ℕ) (s : Peek L) → HaltsToSample t → s.clock ≡ base + made
      → (outcome (peek_meaning sees) start made t s).1.idle ≡ true → (outcome (peek_meaning sees) start made t s).0.halted ≡ false
      → peek_of_script (sees s.from) made t ≡ Some ((outcome (peek_meaning sees) start made t s).0, (outcome (peek_meaning sees) start made t s).1.clock - base)
  peek_of_script-outcome (Read at next) start base made s halts e idle runs =
      let byte = byte_read (peek_meaning sees) at s in
      let after : Peek L = after_read (peek_meaning sees) at s in
      let still : (s.idle && is_some (sees s.from at)) ≡ true = idle-outcome (next byte) start (made + 1) after idle in
      let clock : s.clock + 1 ≡ base + (made + 1) = omega arith in
      seen_then (sees s.from at) (λ byte. peek_of_script (sees s.from) (made + 1) (next byte)) _ (and_parts s.idle (is_some (sees s.from at)) still).1
      (peek_of_script-outcome (next byte) start base (made + 1) after (halts byte) clock idle runs)
  peek_of_script-outcome (Write at value next) start base made s halts e idle runs =
      let off : false ≡ true = idle-outcome next start (made + 1) (after_write (peek_meaning sees) at value s) idle in
      absurd (cc)
  peek_of_script-outcome (End cpu (Cycles n)) start base made s halts e idle runs =
      let clock = clock-rest (nat_lt made n) base made n s refl e in
      let cycles : made + (n - made) ≡ (if nat_lt made n then (peek_meaning sees).pass s (n - made) else s).clock - base = omega arith in
      λ i. Some (cpu, cycles i)
  peek_of_script-outcome (End cpu ToSample) start base made s halts e idle runs = absurd (both_ways cpu.halted runs halts)

  -- a step from clock 0 that only read, and didn't halt
  pub peek_of_script-step : (cpu next : Cpu) (s t : Peek L) → (next, t) ≡ step_outcome (peek_meaning sees) cpu s → s.clock ≡ 0 → t.idle ≡ true → next.halted ≡ false
      → peek_of_script (sees s.from) 0 (script cpu) ≡ Some (next, t.clock)
  peek_of_script-step cpu next s t does start idle runs =
      let last = step_outcome (peek_meaning sees) cpu s in
      let registers : next ≡ last.0 = ap (λ (w : Cpu × Peek L). w.0) does in
      let bus : t ≡ last.1 = ap (λ (w : Cpu × Peek L). w.1) does in
      let idle2 : last.1.idle ≡ true = ap (λ (l : Peek L). l.idle) (sym bus) ∙ idle in
      let runs2 : last.0.halted ≡ false = ap (λ (c : Cpu). c.halted) (sym registers) ∙ runs in
      let less : last.1.clock - 0 ≡ t.clock = let same : t.clock ≡ last.1.clock = ap (λ (l : Peek L). l.clock) bus in omega arith in
      peek_of_script-outcome (script cpu) s.clock 0 0 s (HaltsToSample-script cpu) start idle2 runs2
      ∙ (λ i. Some (sym registers i, less i))

-- one more step of a trial
pub peek_of_steps-more : (sees : ℕ → Option ℕ) (n : ℕ) (start cpu next : Cpu) (cycles more : ℕ) → peek_of_steps sees n start ≡ Some (cpu, cycles) → peek_of_script sees 0 (script cpu) ≡ Some (next, more)
    → peek_of_steps sees (n + 1) start ≡ Some (next, cycles + more)
unfolding peek_of_steps
peek_of_steps-more sees n start cpu next cycles more first second =
    let e : n + 1 ≡ suc n = omega arith in
    ap (λ (k : ℕ). peek_of_steps sees k start) e ∙ rw first (rw second refl)

pub peek_of_steps-none : (sees : ℕ → Option ℕ) (start : Cpu) → peek_of_steps sees 0 start ≡ Some (start, 0)
unfolding peek_of_steps
peek_of_steps-none sees start = refl
