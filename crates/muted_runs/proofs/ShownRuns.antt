-- Runs in which nothing is hidden.
use Rattle.std.proofs.Common.{◌≡◌, ℕ, zero, suc, ◌+◌, ◌-◌, ◌*◌, ◌==◌, ◌&&◌, nat_le, nat_lt, Bool, true, false, refl, ◌∙◌}
use Rattle.std.specs.Prelude.{if◌then◌else◌}
use Rattle.spc700_exec.specs.declared.bus.TheConstants.{CYCLES_PER_SAMPLE}
use Rattle.spc700_exec.specs.Bus.{BusMeaning, byte_read, after_read, after_write}
use Rattle.spc700_exec.specs.Script.{Script, Read, Write, End, cycles_at, outcome}
use Rattle.spc700_exec.specs.Instruction.{script}
use Rattle.chip_form.specs.ChipMeaning.{ChipMeaning}
use Rattle.lock_step.specs.Machine.{Machine}
use Rattle.lock_step.specs.LockStep.{samples_due}
use Rattle.render_core.specs.MachineRun.{Whole, after_step, after_steps, after_run}
use Rattle.muted_runs.specs.Watching.{Watched, watched, begun_watching, nothing_hidden, reads_in_run}

and_false : (b : Bool) → (b && false) ≡ false
and_false true = refl
and_false false = refl

module _ {S : Type 0} (chip : ChipMeaning S) where
  abbrev all_shown : BusMeaning (Watched S)
  all_shown = watched chip nothing_hidden

  rest_quiet : (b : Bool) (cycles : ℕ) (w : Watched S) → (if b then all_shown.pass w cycles else w).noted ≡ w.noted
  rest_quiet true cycles w = refl
  rest_quiet false cycles w = refl

  outcome_quiet : (it : Script) (start made : ℕ) (w : Watched S) → w.noted ≡ false → (outcome all_shown start made it w).1.noted ≡ false
  outcome_quiet (Read at next) start made w quiet =
      outcome_quiet (next (byte_read all_shown at w)) start (made + 1) (after_read all_shown at w) (rw quiet (and_false (at == 0xF3)))
  outcome_quiet (Write at value next) start made w quiet = outcome_quiet next start (made + 1) (after_write all_shown at value w) quiet
  outcome_quiet (End cpu time) start made w quiet = rest_quiet (nat_lt made (cycles_at start time)) (cycles_at start time - made) w ∙ quiet

  step_quiet : (w : Whole (Watched S)) → w.1.noted ≡ false → (after_step all_shown w).1.noted ≡ false
  unfolding after_step
  step_quiet w quiet = outcome_quiet (script w.0) w.1.machine.clock 0 w.1 quiet

  steps_quiet : (samples steps : ℕ) (w : Whole (Watched S)) → w.1.noted ≡ false → (after_steps all_shown samples steps w).1.noted ≡ false
  steps_quiet samples zero w quiet = quiet
  steps_quiet samples (suc steps) w quiet = by (nat_le samples (samples_due w.1.machine)) (steps_quiet samples steps (after_step all_shown w) (step_quiet w quiet))
    where
      next : Whole (Watched S)
      next = after_step all_shown w

      by : (b : Bool) → (after_steps all_shown samples steps next).1.noted ≡ false → (if b then w else after_steps all_shown samples steps next).1.noted ≡ false
      by true rest = quiet
      by false rest = rest

  pub run_quiet : (samples : ℕ) (w : Whole (Machine S)) → reads_in_run chip nothing_hidden samples w ≡ false
  unfolding after_run
  run_quiet samples w = steps_quiet samples (CYCLES_PER_SAMPLE * samples - w.1.clock) (begun_watching w) refl
