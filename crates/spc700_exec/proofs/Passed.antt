-- The clock after an instruction's accesses: each has passed one cycle.
use Rattle.std.proofs.Common.{◌≡◌, ◌⊎◌, ℕ, ◌+◌, ◌-◌, ◌*◌, ◌%◌, ◌≤◌, List, [], ◌∷◌, length, Bool, true, false, nat_lt, refl, sym, ap, ◌∙◌, inl, inr, arith}
use Rattle.std.specs.Prelude.{if◌then◌else◌}
use Rattle.std.proofs.lemmas.Bool.Decides.{nat_tests}
use Rattle.spc700_table.specs.declared.OpRow.{OpRow}
use Rattle.spc700_exec.specs.declared.cpu.Cpu.{Cpu}
use Rattle.spc700_exec.specs.Bus.{BusMeaning, IsLawful, byte_read, after_read, after_write}
use Rattle.spc700_exec.specs.Script.{Script, Read, Write, End, Time, Cycles, ToSample, cycles_at, after_rest}
use Rattle.spc700_exec.specs.Accesses.{Access, Progress, after_access, Makes}
use Rattle.spc700_exec.specs.Pieces.{IsRow, Does}
use Rattle.spc700_exec.proofs.ByClock.{clock-after_read, clock-after_write}
use Rattle.spc700_exec.specs.declared.bus.TheConstants.{CYCLES_PER_SAMPLE}

module _ {S : Type 0} (bus : BusMeaning S) (law : IsLawful bus) where
  clock-either : (s : S) (cycles made : ℕ) (b : Bool) → nat_lt made cycles ≡ b → bus.clock (if b then bus.pass s (cycles - made) else s) ≡ bus.clock s + (cycles - made)
  clock-either s cycles made true is = law.pass_clock s (cycles - made)
  clock-either s cycles made false is = grind (arith, nat_tests)

  clock-after_rest : (cycles made : ℕ) (s : S) → bus.clock (after_rest bus cycles made s) ≡ bus.clock s + (cycles - made)
  clock-after_rest cycles made s = clock-either s cycles made (nat_lt made cycles) refl

  -- where a script ends, the rest of its cycles brings the clock on as that of these cycles does, whenever it began
  at_end : (cpu cpu' : Cpu) (time : Time) (s mid : S) (cycles start : ℕ) → ◌≡◌ {A = Cpu × S} (cpu, after_rest bus (cycles_at start time) (bus.clock s - start) s) (cpu', after_rest bus cycles (bus.clock mid - start) mid) → bus.clock s + (cycles_at start time - (bus.clock s - start)) ≡ bus.clock mid + (cycles - (bus.clock mid - start))
  at_end cpu cpu' time s mid cycles start does =
      sym (clock-after_rest (cycles_at start time) (bus.clock s - start) s)
      ∙ ap (λ (p : Cpu × S). bus.clock p.1) does
      ∙ clock-after_rest cycles (bus.clock mid - start) mid

  same_clock : (c cycles m n : ℕ) → 1 ≤ c → 1 ≤ cycles → n + (c - (n - 0)) ≡ m + (cycles - (m - 0)) → n + (c - (n - 1)) ≡ m + (cycles - (m - 1)) → n + (c - (n - (n + m))) ≡ m + (cycles - (m - (n + m))) → m ≡ n
  same_clock c cycles m n some more at_0 at_1 later = omega arith

  some_cycles : (row : OpRow) (c : ℕ) → IsRow row → (c ≡ row.cycles) ⊎ (c ≡ row.taken) → 1 ≤ c
  some_cycles row c fits (inl e) = omega (arith, fits.some)
  some_cycles row c fits (inr e) = omega (arith, fits.some, fits.more)

  far_off : (n m cycles : ℕ) → cycles ≤ 12 → m ≤ n + 11 → n + (CYCLES_PER_SAMPLE - CYCLES_PER_SAMPLE * (n + m) % CYCLES_PER_SAMPLE - (n - CYCLES_PER_SAMPLE * (n + m))) ≡ m + (cycles - (m - CYCLES_PER_SAMPLE * (n + m))) → ⊥
  far_off n m cycles few near same = omega arith

  pub clock-instruction : (row : OpRow) (first cpu' : Cpu) (cycles : ℕ) (mid : S) (p : Progress) (accesses : List Access) (t : Script) (s : S) → IsRow row → 1 ≤ cycles → cycles ≤ 12 → bus.clock mid ≤ bus.clock s + 11 → Makes row first p accesses t → Does bus t s cpu' cycles mid → bus.clock mid ≡ bus.clock s + length accesses
  clock-instruction row first cpu' cycles mid p [] (End cpu (Cycles c)) s fits some few near m does =
      let at : (start : ℕ) → bus.clock s + (c - (bus.clock s - start)) ≡ bus.clock mid + (cycles - (bus.clock mid - start)) = λ start. at_end cpu cpu' (Cycles c) s mid cycles start (does start) in
      let same = same_clock c cycles (bus.clock mid) (bus.clock s) (some_cycles row c fits m) some (at 0) (at 1) (at (bus.clock s + bus.clock mid)) in
      omega arith
  clock-instruction row first cpu' cycles mid p [] (End cpu ToSample) s fits some few near m does =
      let start = CYCLES_PER_SAMPLE * (bus.clock s + bus.clock mid) in
      absurd (far_off (bus.clock s) (bus.clock mid) cycles few near (at_end cpu cpu' ToSample s mid cycles start (does start)))
  clock-instruction row first cpu' cycles mid p [] (Read at next) s fits some few near m does = absurd m
  clock-instruction row first cpu' cycles mid p [] (Write at value next) s fits some few near m does = absurd m
  clock-instruction row first cpu' cycles mid p (access ∷ accesses) (End cpu time) s fits some few near m does = absurd m
  clock-instruction row first cpu' cycles mid p (access ∷ accesses) (Read at next) s fits some few near m does =
      let moved = clock-after_read bus law at s in
      let byte = byte_read bus at s in
      let rest = clock-instruction row first cpu' cycles mid (after_access access byte p) accesses (next byte) (after_read bus at s) fits some few (omega arith) (m.1 byte) does in
      omega arith
  clock-instruction row first cpu' cycles mid p (access ∷ accesses) (Write at value next) s fits some few near m does =
      let moved = clock-after_write bus law at value s in
      let rest = clock-instruction row first cpu' cycles mid (after_access access value p) accesses next (after_write bus at value s) fits some few (omega arith) m.1 does in
      omega arith
