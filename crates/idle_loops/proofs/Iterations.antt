-- Steps that only read leave nothing but the cycles that they take, and so do iterations of them.
use Rattle.std.proofs.Common.{◌≡◌, ℕ, zero, suc, ◌+◌, ◌-◌, ◌*◌, ◌≤◌, Bool, true, false, nat_lt, refl, sym, ap, ◌∙◌, subst, arith, Option, Some, None}
use Rattle.std.specs.Prelude.{if◌then◌else◌}
use Rattle.std.proofs.lemmas.Bool.Decides.{nat_tests}
use Rattle.std.proofs.lemmas.Option.{same_Some}
use Rattle.spc700_exec.specs.declared.cpu.Cpu.{Cpu}
use Rattle.spc700_exec.specs.Bus.{BusMeaning, byte_read, after_read}
use Rattle.spc700_exec.specs.Script.{Script, Read, Write, End, Cycles, ToSample, outcome}
use Rattle.spc700_exec.specs.Instruction.{script, step_outcome}
use Rattle.spc700_exec.specs.Length.{IsShort}
use Rattle.spc700_exec.proofs.Short.{IsShort-script}
use Rattle.idle_loops.specs.ReadOnly.{then_if, peek_of_script, peek_of_steps, after_n_steps, IsOnlyRead}
use Rattle.spc700_exec.specs.declared.bus.TheConstants.{CYCLES_PER_SAMPLE}

-- what was there where something follows it
then_some : {A X : Type 0} (o : Option A) (next : A → Option X) (x : X) → then_if o next ≡ Some x → (a : A) × (o ≡ Some a) × (next a ≡ Some x)
then_some None next x h = absurd (cc)
then_some (Some a) next x h = (a, refl, h)

same_pair : (v w : Cpu × ℕ) → Some v ≡ Some w → (v.0 ≡ w.0) × (v.1 ≡ w.1)
same_pair v w h = let e = same_Some v w h in (ap (λ (x : Cpu × ℕ). x.0) e, ap (λ (x : Cpu × ℕ). x.1) e)

peek_of_script-least : (sees : ℕ → Option ℕ) (t : Script) (made : ℕ) (cpu : Cpu) (cycles : ℕ) → peek_of_script sees made t ≡ Some (cpu, cycles) → made ≤ cycles
peek_of_script-least sees (Read at next) made cpu cycles h =
    let seen = then_some (sees at) (λ byte. peek_of_script sees (made + 1) (next byte)) (cpu, cycles) h in
    let more = peek_of_script-least sees (next seen.0) (made + 1) cpu cycles seen.2 in
    omega arith
peek_of_script-least sees (Write at value next) made cpu cycles h = absurd (cc)
peek_of_script-least sees (End end (Cycles n)) made cpu cycles h =
    let e = same_pair _ _ h in
    omega arith
peek_of_script-least sees (End end ToSample) made cpu cycles h = absurd (cc)

module _ {S : Type 0} (bus : BusMeaning S) (bare : S → S) (sees : ℕ → Option ℕ) (most : ℕ) (waited : ℕ → S) (law : IsOnlyRead bus bare sees most waited) where
  -- these registers, and a bus that waited so long
  abbrev Waited : Cpu → (n : ℕ) → Cpu × S → Type 0
  Waited cpu n w = (w.0 ≡ cpu) × (bare w.1 ≡ bare (waited n))

  waited-rest : (s : S) (n rest : ℕ) (b : Bool) → nat_lt 0 rest ≡ b → rest ≤ CYCLES_PER_SAMPLE → n + rest ≤ most → bare s ≡ bare (waited n) → bare (if b then bus.pass s rest else s) ≡ bare (waited (n + rest))
  waited-rest s n rest true is few fits same =
      let some : 1 ≤ rest = grind (arith, nat_tests) in
      law.pass s n rest same some few fits
  waited-rest s n rest false is few fits same =
      let none : n ≡ n + rest = grind (arith, nat_tests) in
      same ∙ ap (λ (k : ℕ). bare (waited k)) none

  waited-end : (s : S) (base made cycles : ℕ) → cycles ≤ CYCLES_PER_SAMPLE → base + (made + (cycles - made)) ≤ most → bare s ≡ bare (waited (base + made))
      → bare (if nat_lt made cycles then bus.pass s (cycles - made) else s) ≡ bare (waited (base + (made + (cycles - made))))
  waited-end s base made cycles few fits same =
      let test : nat_lt 0 (cycles - made) ≡ nat_lt made cycles = grind (arith, nat_tests) in
      let sum : base + made + (cycles - made) ≡ base + (made + (cycles - made)) = omega arith in
      waited-rest s (base + made) (cycles - made) (nat_lt made cycles) test (omega arith) (omega arith) same ∙ ap (λ (k : ℕ). bare (waited k)) sum

  waited-outcome : (t : Script) (k start base made : ℕ) (s : S) (cpu : Cpu) (cycles : ℕ) → IsShort k t → bare s ≡ bare (waited (base + made))
      → peek_of_script sees made t ≡ Some (cpu, cycles) → base + cycles ≤ most → Waited cpu (base + cycles) (outcome bus start made t s)
  waited-outcome (Read at next) zero start base made s cpu cycles short same h fits = absurd short
  waited-outcome (Read at next) (suc k) start base made s cpu cycles short same h fits =
      let seen = then_some (sees at) (λ byte. peek_of_script sees (made + 1) (next byte)) (cpu, cycles) h in
      let least = peek_of_script-least sees (next seen.0) (made + 1) cpu cycles seen.2 in
      let sum : base + made + 1 ≡ base + (made + 1) = omega arith in
      let passed : bare (bus.pass s 1) ≡ bare (waited (base + (made + 1))) =
      law.pass s (base + made) 1 same (omega arith) (omega arith) (omega arith) ∙ ap (λ (n : ℕ). bare (waited n)) sum in
      let byte : byte_read bus at s ≡ seen.0 = law.byte (bus.pass s 1) (base + (made + 1)) at seen.0 passed (omega arith) seen.1 in
      let after : bare (after_read bus at s) ≡ bare (waited (base + (made + 1))) = law.read (bus.pass s 1) (base + (made + 1)) at seen.0 passed (omega arith) seen.1 in
      waited-outcome (next (byte_read bus at s)) k start base (made + 1) (after_read bus at s) cpu cycles (short (byte_read bus at s)) after
      (ap (λ (b : ℕ). peek_of_script sees (made + 1) (next b)) byte ∙ seen.2) fits
  waited-outcome (Write at value next) k start base made s cpu cycles short same h fits = absurd (cc)
  waited-outcome (End end (Cycles n)) zero start base made s cpu cycles short same h fits =
      let e = same_pair _ _ h in
      (e.0, waited-end s base made n short (omega arith) same ∙ ap (λ (c : ℕ). bare (waited (base + c))) e.1)
  waited-outcome (End end (Cycles n)) (suc k) start base made s cpu cycles short same h fits =
      let e = same_pair _ _ h in
      (e.0, waited-end s base made n short (omega arith) same ∙ ap (λ (c : ℕ). bare (waited (base + c))) e.1)
  waited-outcome (End end ToSample) k start base made s cpu cycles short same h fits = absurd (cc)

  waited-step : (base : ℕ) (w : Cpu × S) (before cpu : Cpu) (cycles : ℕ) → Waited before base w
      → peek_of_script sees 0 (script before) ≡ Some (cpu, cycles) → base + cycles ≤ most → Waited cpu (base + cycles) (step_outcome bus w.0 w.1)
  waited-step base w before cpu cycles so h fits =
      let start : base ≡ base + 0 = omega arith in
      waited-outcome (script w.0) 6 (bus.clock w.1) base 0 w.1 cpu cycles (IsShort-script w.0) (so.1 ∙ ap (λ (n : ℕ). bare (waited n)) start)
      (ap (λ (c : Cpu). peek_of_script sees 0 (script c)) so.0 ∙ h) fits

  -- n steps that only read
  pub waited-steps : (n base : ℕ) (w : Cpu × S) (before cpu : Cpu) (cycles : ℕ) → Waited before base w
      → peek_of_steps sees n before ≡ Some (cpu, cycles) → base + cycles ≤ most → Waited cpu (base + cycles) (after_n_steps bus n w)
  unfolding peek_of_steps after_n_steps
  waited-steps zero base w before cpu cycles so h fits =
      let e = same_pair _ _ h in
      let sum : base ≡ base + cycles = omega arith in
      (so.0 ∙ e.0, so.1 ∙ ap (λ (n : ℕ). bare (waited n)) sum)
  waited-steps (suc n) base w before cpu cycles so h fits =
      let first = then_some (peek_of_steps sees n before) (λ b. then_if (peek_of_script sees 0 (script b.0)) (λ next. Some (next.0, b.1 + next.1))) (cpu, cycles) h in
      let last = then_some (peek_of_script sees 0 (script first.0.0)) (λ next. Some (next.0, first.0.1 + next.1)) (cpu, cycles) first.2 in
      let e = same_pair _ _ last.2 in
      let total : base + first.0.1 + last.0.1 ≡ base + cycles = omega arith in
      let half = waited-steps n base w before first.0.0 first.0.1 so first.1 (omega arith) in
      let all = waited-step (base + first.0.1) (after_n_steps bus n w) first.0.0 last.0.0 last.0.1 half last.1 (omega arith) in
      (all.0 ∙ e.0, all.1 ∙ ap (λ (k : ℕ). bare (waited k)) total)

  after_n_steps-add : (m n : ℕ) (w : Cpu × S) → after_n_steps bus (n + m) w ≡ after_n_steps bus n (after_n_steps bus m w)
  unfolding after_n_steps
  after_n_steps-add m zero w = ap (λ (k : ℕ). after_n_steps bus k w) (let e : 0 + m ≡ m = omega arith in e)
  after_n_steps-add m (suc n) w =
      let e : suc n + m ≡ suc (n + m) = omega arith in
      ap (λ (k : ℕ). after_n_steps bus k w) e ∙ ap (λ (v : Cpu × S). step_outcome bus v.0 v.1) (after_n_steps-add m n w)

  -- k iterations of n steps and d cycles that bring the registers back
  pub waited-iterations : (k n d : ℕ) (w : Cpu × S) (cpu : Cpu) → Waited cpu 0 w → peek_of_steps sees n cpu ≡ Some (cpu, d) → k * d ≤ most → Waited cpu (k * d) (after_n_steps bus (k * n) w)
  unfolding after_n_steps
  waited-iterations zero n d w cpu so h fits =
      let none : 0 * n ≡ 0 = omega arith in
      let still : 0 ≡ 0 * d = omega arith in
      subst (λ (j : ℕ). Waited cpu (0 * d) (after_n_steps bus j w)) (sym none) (so.0, so.1 ∙ ap (λ (j : ℕ). bare (waited j)) still)
  waited-iterations (suc k) n d w cpu so h fits =
      let steps : n + k * n ≡ suc k * n = omega arith in
      let cycles : k * d + d ≡ suc k * d = omega arith in
      let before = waited-iterations k n d w cpu so h (omega arith) in
      let all = waited-steps n (k * d) (after_n_steps bus (k * n) w) cpu cpu d before h (omega arith) in
      let there : Waited cpu (k * d + d) (after_n_steps bus (n + k * n) w) = subst (λ (v : Cpu × S). Waited cpu (k * d + d) v) (sym (after_n_steps-add (k * n) n w)) all in
      subst (λ (j : ℕ). Waited cpu (suc k * d) (after_n_steps bus j w)) steps (subst (λ (c : ℕ). Waited cpu c (after_n_steps bus (n + k * n) w)) cycles there)
