-- What was emitted before a run stands before what the run emits, and makes no other difference.
use Rattle.std.proofs.Common.{◌≡◌, ◌≤◌, inl, inr, ℕ, zero, suc, ◌-◌, ◌*◌, ◌/◌, ◌<◌, Bool, true, false, nat_le, nat_lt, List, ◌++◌, refl, sym, ◌∙◌, ap, subst}
use Rattle.std.proofs.lemmas.Bool.{cases_lt}
use Rattle.std.specs.Prelude.{if◌then◌else◌}
use Rattle.std.proofs.lemmas.List.Elements.{filter-append}
use Rattle.spc700_exec.specs.declared.cpu.Cpu.{Cpu}
use Rattle.spc700_exec.specs.Bus.{BusMeaning, IsLawful}
use Rattle.spc700_exec.specs.Instruction.{step_outcome}
use Rattle.spc700_exec.specs.Emitting.{IsEmitting, IsAhead}
use Rattle.spc700_exec.proofs.Alike.{clock-cleared, IsAhead-step_outcome}
use Rattle.trace_form.specs.declared.record.Record.{Record}
use Rattle.render_core.specs.MachineRun.{Whole, after_step, after_steps, after_run}
use Rattle.lock_step.specs.SampleNumbers.{sample_number}
use Rattle.render_core.specs.Items.{records_before}
use Rattle.render_core.proofs.RunBySteps.{after_run-reached}
use Rattle.spc700_exec.specs.declared.bus.TheConstants.{CYCLES_PER_SAMPLE}

module _ {S I : Type 0} (bus : BusMeaning S) (lawful : IsLawful bus) (cleared : S → S) (items : S → List I) (law : IsEmitting bus cleared items) where
  -- the same registers, and a bus that is ahead by some items
  abbrev AreAhead : (before : List I) (w v : Whole S) → Type 0
  AreAhead before w v = (w.0 ≡ v.0) × IsAhead cleared items before w.1 v.1

  -- a whole machine with its bus at rest
  abbrev pub resting : (at_rest : S → S) → Whole S → Whole S
  resting at_rest w = (w.0, at_rest w.1)

  pub due-cleared : (s t : S) → cleared s ≡ cleared t → bus.due s ≡ bus.due t
  due-cleared s t same = lawful.samples s ∙ ap (λ (k : ℕ). k / CYCLES_PER_SAMPLE) (clock-cleared bus cleared items law s t same) ∙ sym (lawful.samples t)

  AreAhead-step : (before : List I) (w v : Whole S) → AreAhead before w v → AreAhead before (after_step bus w) (after_step bus v)
  unfolding after_step
  AreAhead-step before w v a =
      subst (λ (cpu : Cpu). ((step_outcome bus w.0 w.1).0 ≡ (step_outcome bus cpu v.1).0) × IsAhead cleared items before (step_outcome bus w.0 w.1).1 (step_outcome bus cpu v.1).1) a.0
      (IsAhead-step_outcome bus cleared items law w.0 before w.1 v.1 a.1)

  AreAhead-if : (before : List I) (b : Bool) (w v x y : Whole S) → AreAhead before w v → AreAhead before x y → AreAhead before (if b then w else x) (if b then v else y)
  AreAhead-if before true w v x y first second = first
  AreAhead-if before false w v x y first second = second

  module _ (samples : ℕ) where
    AreAhead-steps : (steps : ℕ) (before : List I) (w v : Whole S) → AreAhead before w v → AreAhead before (after_steps bus samples steps w) (after_steps bus samples steps v)
    AreAhead-steps zero before w v a = a
    AreAhead-steps (suc steps) before w v a =
        let x = after_steps bus samples steps (after_step bus w) in
        let y = after_steps bus samples steps (after_step bus v) in
        subst (λ (due : ℕ). AreAhead before (if nat_le samples (bus.due w.1) then w else x) (if nat_le samples due then v else y)) (due-cleared w.1 v.1 a.1.same)
        (AreAhead-if before (nat_le samples (bus.due w.1)) w v x y a (AreAhead-steps steps before (after_step bus w) (after_step bus v) (AreAhead-step before w v a)))

    AreAhead-run : (before : List I) (w v : Whole S) → AreAhead before w v → AreAhead before (after_run bus samples w) (after_run bus samples v)
    unfolding after_run
    AreAhead-run before w v a =
        subst (λ (clock : ℕ). AreAhead before (after_steps bus samples (CYCLES_PER_SAMPLE * samples - bus.clock w.1) w) (after_steps bus samples (CYCLES_PER_SAMPLE * samples - clock) v)) (clock-cleared bus cleared items law w.1 v.1 a.1.same)
        (AreAhead-steps (CYCLES_PER_SAMPLE * samples - bus.clock w.1) before w v a)

    -- a drain takes what it hands over from what a run emits
    pub items-after_run-drained : (cpu : Cpu) (s t : S) (got : List I) → items s ≡ got ++ items t → cleared t ≡ cleared s → items (after_run bus samples (cpu, s)).1 ≡ got ++ items (after_run bus samples (cpu, t)).1
    items-after_run-drained cpu s t got split same =
        let ahead : AreAhead got (cpu, s) (cpu, t) = (refl, record { same = sym same; front = split }) in
        (AreAhead-run got (cpu, s) (cpu, t) ahead).1.front

    -- nor does it change the machine at rest at the end of the run
    pub end-after_run-drained : (at_rest : S → S) → ((s : S) → at_rest (cleared s) ≡ at_rest s) → (cpu : Cpu) (s t : S) (got : List I) → items s ≡ got ++ items t → cleared t ≡ cleared s
        → resting at_rest (after_run bus samples (cpu, s)) ≡ resting at_rest (after_run bus samples (cpu, t))
    end-after_run-drained at_rest beside cpu s t got split same =
        let ahead : AreAhead got (cpu, s) (cpu, t) = (refl, record { same = sym same; front = split }) in
        let run = AreAhead-run got (cpu, s) (cpu, t) ahead in
        let rest = sym (beside _) ∙ ap at_rest run.1.same ∙ beside _ in
        λ i. (run.0 i, rest i)

    -- a bus that is settled once the samples are due, and then drained
    module _ (cpu : Cpu) (next settled drained : S) (got : List I) (kept : items settled ≡ items next) (clock : bus.clock settled ≡ bus.clock next) (still : bus.due next < samples → settled ≡ next)
        (split : items settled ≡ got ++ items drained) (same : cleared drained ≡ cleared settled) where
      due-settled : bus.due settled ≡ bus.due next
      due-settled = lawful.samples settled ∙ ap (λ (k : ℕ). k / CYCLES_PER_SAMPLE) clock ∙ sym (lawful.samples next)

      due-drained : bus.due drained ≡ bus.due next
      due-drained = due-cleared drained settled same ∙ due-settled

      pub items-after_run-settled : items (after_run bus samples (cpu, next)).1 ≡ got ++ items (after_run bus samples (cpu, drained)).1
      items-after_run-settled = elim (cases_lt (bus.due next) samples) [
        | inl more ↦ items-after_run-drained cpu next drained got (ap items (sym (still more)) ∙ split) (same ∙ ap cleared (still more))
        | inr all ↦
            let all_drained : samples ≤ bus.due drained = subst (λ (n : ℕ). samples ≤ n) (sym due-drained) all in
            ap (λ (w : Whole S). items w.1) (after_run-reached bus lawful samples (cpu, next) all)
            ∙ sym kept ∙ split ∙ ap (λ (w : Whole S). got ++ items w.1) (sym (after_run-reached bus lawful samples (cpu, drained) all_drained))
      ]

      pub end-after_run-settled : (at_rest : S → S) → ((s : S) → at_rest (cleared s) ≡ at_rest s) → at_rest settled ≡ at_rest next
          → resting at_rest (after_run bus samples (cpu, next)) ≡ resting at_rest (after_run bus samples (cpu, drained))
      end-after_run-settled at_rest beside known = elim (cases_lt (bus.due next) samples) [
        | inl more ↦ end-after_run-drained at_rest beside cpu next drained got (ap items (sym (still more)) ∙ split) (same ∙ ap cleared (still more))
        | inr all ↦
            let all_drained : samples ≤ bus.due drained = subst (λ (n : ℕ). samples ≤ n) (sym due-drained) all in
            let rest = sym known ∙ sym (beside settled) ∙ ap at_rest (sym same) ∙ beside drained in
            ap (resting at_rest) (after_run-reached bus lawful samples (cpu, next) all)
            ∙ ap (λ (s : S). (cpu, s)) rest
            ∙ ap (resting at_rest) (sym (after_run-reached bus lawful samples (cpu, drained) all_drained))
      ]

pub records_before-append : (samples : ℕ) (xs ys : List Record) → records_before samples (xs ++ ys) ≡ records_before samples xs ++ records_before samples ys
records_before-append samples xs ys = filter-append (λ item. nat_lt (sample_number item) samples) xs ys
