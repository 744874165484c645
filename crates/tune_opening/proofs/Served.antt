-- The frames, the pages and the chip of a server that opened at a tune.
use Rattle.std.proofs.Common.{◌≡◌, ◌∙◌, ℕ, ℤ, List, ◌++◌, length, take, refl, sym, ap, arith}
use Rattle.std.proofs.Math.Seq.{take-append_seam}
use Rattle.dsp_state.specs.declared.state.ChipState.{ChipState}
use Rattle.dsp_core.specs.DspChip.{dsp_chip, dsp_saving}
use Rattle.dsp_core.specs.DspLaws.{dsp_saves_lawfully}
use Rattle.lock_step.specs.Machine.{Machine}
use Rattle.render_core.specs.MachineRun.{Whole}
use Rattle.cut_form.specs.GrowingFrames.{AreOfRun}
use Rattle.cut_server.specs.Machines.{Machines, AreLawful}
use Rattle.cut_server.specs.Server.{lock_step_machines, chip_after}
use Rattle.cut_server.specs.ServerState.{pages_after, frames_after}
use Rattle.cut_server.proofs.Renders.{machines_lawful}
use Rattle.tune_opening.specs.Tune.{opened_tune, tune_frames, tune_pages, tune_chip}

pub frames_served : (file : List ℕ) (table : List ℤ) (muted : ℕ) (start : Whole (Machine ChipState)) → start ≡ opened_tune file table muted 0 →
    frames_after (lock_step_machines dsp_chip dsp_saving) start ≡ tune_frames file table muted 0
unfolding lock_step_machines
frames_served file table muted start is = ap (frames_after (lock_step_machines dsp_chip dsp_saving)) is

pub pages_served : (file : List ℕ) (table : List ℤ) (muted : ℕ) (start : Whole (Machine ChipState)) → start ≡ opened_tune file table muted 0 →
    pages_after (lock_step_machines dsp_chip dsp_saving) start ≡ tune_pages file table muted
unfolding lock_step_machines
pages_served file table muted start is = ap (pages_after (lock_step_machines dsp_chip dsp_saving)) is

pub chip_served : (file : List ℕ) (table : List ℤ) (muted : ℕ) (start : Whole (Machine ChipState)) → start ≡ opened_tune file table muted 0 →
    chip_after dsp_chip start ≡ tune_chip file table muted
chip_served file table muted start is = ap (chip_after dsp_chip) is

-- the frames of a run from a machine that has made none
run_from : {W V : Type 0} (machines : Machines W V) (start : W) → AreLawful machines → machines.sample (machines.state start) ≡ 0 → AreOfRun (frames_after machines start)
run_from machines start laws none =
    let counted : (n : ℕ) → length (machines.run_frames n start) ≡ n = λ n. omega (arith, none, laws.counts n start (omega (arith, none))) in
    record {
      count = counted;
      grows = λ k n later.
          ap (take k) (laws.emits k n start later)
          ∙ ap (λ (j : ℕ). take j (machines.run_frames k start ++ machines.run_frames n (machines.after_run k start))) (sym (counted k))
          ∙ take-append_seam (machines.run_frames k start) (machines.run_frames n (machines.after_run k start));
    }

none_made : (file : List ℕ) (table : List ℤ) (muted : ℕ) → (lock_step_machines dsp_chip dsp_saving).sample ((lock_step_machines dsp_chip dsp_saving).state (opened_tune file table muted 0)) ≡ 0
unfolding lock_step_machines
none_made file table muted = refl

pub run_served : (file : List ℕ) (table : List ℤ) (muted : ℕ) (start : Whole (Machine ChipState)) → start ≡ opened_tune file table muted 0 → AreOfRun (frames_after (lock_step_machines dsp_chip dsp_saving) start)
run_served file table muted start is =
    rw is (run_from (lock_step_machines dsp_chip dsp_saving) (opened_tune file table muted 0) (machines_lawful dsp_chip dsp_saving dsp_saves_lawfully) (none_made file table muted))
