-- An instruction and the rest of its cycles, as its script has them.
use Rattle.std.proofs.Common.{◌≡◌, ℕ, ◌+◌, ◌-◌, ◌%◌, ◌<◌, length, true, false, refl, sym, ap, ◌∙◌, arith}
use Rattle.spc700_table.specs.declared.OpRow.{OpRow}
use Rattle.spc700_table.specs.Opcodes.{row_of}
use Rattle.spc700_exec.specs.declared.cpu.Cpu.{Cpu}
use Rattle.spc700_exec.specs.Bus.{BusMeaning, IsLawful}
use Rattle.spc700_exec.specs.Script.{End, Cycles, after_rest, outcome}
use Rattle.spc700_exec.specs.Accesses.{begun, row_accesses}
use Rattle.spc700_exec.specs.Instruction.{instruction}
use Rattle.spc700_exec.specs.Lines.{halt_line}
use Rattle.spc700_exec.specs.Pieces.{IsRow, IsInstruction, IsWholeInstruction, access_count, halts}
use Rattle.spc700_exec.proofs.Beyond.{row_operation, IsListed-row_of}
use Rattle.spc700_exec.proofs.ByClock.{outcome_by_clock-is}
use Rattle.spc700_exec.proofs.Makes.{Makes-line_of}
use Rattle.spc700_exec.proofs.Passed.{clock-instruction}
use Rattle.spc700_exec.proofs.EveryRow.{IsRow-row_of}
use Rattle.spc700_exec.specs.declared.bus.TheConstants.{CYCLES_PER_SAMPLE}

module _ {S : Type 0} (bus : BusMeaning S) (law : IsLawful bus) where
  -- the rest of its cycles makes an instruction whole: its accesses passed one cycle each, and that of the opcode one before
  pub whole_by_rest : (op : ℕ) (cpu cpu' : Cpu) (s mid new : S) (cycles : ℕ) → op < 256 → halts (row_of op).kind ≡ false → new ≡ after_rest bus cycles (access_count (row_of op)) mid → IsInstruction bus (instruction (row_of op) cpu) s cpu' cycles mid → IsWholeInstruction bus (row_of op) cpu s cpu' new
  whole_by_rest op cpu cpu' s mid new cycles below runs rest made = record {
    leads = λ start at.
        let fits : IsRow (row_of op) = IsRow-row_of (row_of op) op refl below runs in
        let makes = Makes-line_of (row_of op) cpu (row_operation (row_of op)) (IsListed-row_of op) in
        let passed : bus.clock mid ≡ bus.clock s + length (row_accesses (row_of op)) =
        clock-instruction bus law (row_of op) cpu cpu' cycles mid (begun cpu) (row_accesses (row_of op)) (instruction (row_of op) cpu) s fits made.some made.few made.within.most makes made.does in
        let same : bus.clock mid - start ≡ access_count (row_of op) = omega arith in
        sym (outcome_by_clock-is bus law (instruction (row_of op) cpu) start 1 s at)
        ∙ made.does start
        ∙ ap (λ (k : ℕ). (cpu', after_rest bus cycles k mid)) same
        ∙ ap (λ (x : S). (cpu', x)) (sym rest);
  }

  -- an instruction on registers alone, by its line
  pub on_registers : (row : OpRow) (after cpu' : Cpu) (s : S) (cycles : ℕ) → IsRow row → cpu' ≡ after → cycles ≡ row.cycles → IsInstruction bus (End after (Cycles row.cycles)) s cpu' cycles s
  on_registers row after cpu' s cycles fits is same = record {
    does = λ start.
        ap (λ (k : ℕ). (after, after_rest bus k (bus.clock s - start) s)) (sym same)
        ∙ ap (λ (cpu : Cpu). (cpu, after_rest bus cycles (bus.clock s - start) s)) (sym is);
    some = omega (arith, fits.some);
    few = omega (arith, fits.more, fits.few);
    within = record { calls = omega arith; least = omega arith; most = omega arith };
  }

  cycles_to_sample : (start clock : ℕ) → clock ≡ start + 1 → (CYCLES_PER_SAMPLE - clock % CYCLES_PER_SAMPLE) % CYCLES_PER_SAMPLE + 1 ≡ CYCLES_PER_SAMPLE - start % CYCLES_PER_SAMPLE
  cycles_to_sample start clock at = omega arith

  -- a halt, by its line
  pub halts_by_rest : (row : OpRow) (cpu cpu' : Cpu) (s new : S) (cycles : ℕ) → cpu' ≡ record cpu { halted = true } → cycles ≡ (CYCLES_PER_SAMPLE - bus.clock s % CYCLES_PER_SAMPLE) % CYCLES_PER_SAMPLE + 1 → new ≡ after_rest bus cycles 1 s → (start : ℕ) → bus.clock s ≡ start + 1 → outcome bus start 1 (halt_line row cpu) s ≡ (cpu', new)
  halts_by_rest row cpu cpu' s new cycles halted is rest start at =
      let same : CYCLES_PER_SAMPLE - start % CYCLES_PER_SAMPLE ≡ cycles = sym (is ∙ cycles_to_sample start (bus.clock s) at) in
      ap (λ (k : ℕ). (record cpu { halted = true }, after_rest bus k 1 s)) same
      ∙ ap (λ (c : Cpu). (c, after_rest bus cycles 1 s)) (sym halted)
      ∙ ap (λ (x : S). (cpu', x)) (sym rest)
