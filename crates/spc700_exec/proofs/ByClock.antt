-- For a lawful bus the clock shows how many accesses were made.
use Rattle.std.proofs.Common.{◌≡◌, ℕ, ◌+◌, ◌-◌, refl, subst, arith}
use Rattle.spc700_exec.specs.Bus.{BusMeaning, IsLawful, byte_read, after_read, after_write}
use Rattle.spc700_exec.specs.Script.{Script, Read, Write, End, cycles_at, after_rest, outcome}
use Rattle.spc700_exec.specs.Pieces.{outcome_by_clock}

module _ {S : Type 0} (bus : BusMeaning S) (law : IsLawful bus) where
  pub clock-after_read : (at : ℕ) (s : S) → bus.clock (after_read bus at s) ≡ bus.clock s + 1
  clock-after_read at s =
      let passed = law.pass_clock s 1 in
      let read = law.read_clock (bus.pass s 1) at in
      omega arith

  pub clock-after_write : (at value : ℕ) (s : S) → bus.clock (after_write bus at value s) ≡ bus.clock s + 1
  clock-after_write at value s =
      let passed = law.pass_clock s 1 in
      let written = law.write_clock (bus.pass s 1) at value in
      omega arith

  pub outcome_by_clock-is : (t : Script) (start made : ℕ) (s : S) → bus.clock s ≡ start + made → outcome_by_clock bus start t s ≡ outcome bus start made t s
  outcome_by_clock-is (Read at next) start made s e =
      let moved = clock-after_read at s in
      outcome_by_clock-is (next (byte_read bus at s)) start (made + 1) (after_read bus at s) (omega arith)
  outcome_by_clock-is (Write at value next) start made s e =
      let moved = clock-after_write at value s in
      outcome_by_clock-is next start (made + 1) (after_write bus at value s) (omega arith)
  outcome_by_clock-is (End cpu time) start made s e =
      let spent : bus.clock s - start ≡ made = omega arith in
      subst (λ (k : ℕ). outcome_by_clock bus start (End cpu time) s ≡ (cpu, after_rest bus (cycles_at start time) k s)) spent refl
