-- A run is its next step and the run from there; where the samples are due it is no step.
use Rattle.std.proofs.Common.{◌≡◌, inl, inr, ℕ, zero, suc, ◌+◌, ◌-◌, ◌*◌, ◌≤◌, ◌<◌, Bool, true, nat_le, List, [], refl, sym, ◌∙◌, ap, subst, arith}
use Rattle.std.proofs.lemmas.Bool.{leb-true, le-leb, lt-leb, cases_lt}
use Rattle.std.specs.Prelude.{if◌then◌else◌}
use Rattle.spc700_exec.specs.Bus.{BusMeaning, IsLawful}
use Rattle.spc700_exec.proofs.Bounds.{clock-step_outcome-least, clock-step_outcome-most}
use Rattle.render_core.specs.MachineRun.{Whole, after_step, after_steps, after_run}
use Rattle.spc700_exec.specs.declared.bus.TheConstants.{CYCLES_PER_SAMPLE}

module _ {S : Type 0} (bus : BusMeaning S) (lawful : IsLawful bus) where
  pub clock-after_step-least : (w : Whole S) → bus.clock w.1 + 1 ≤ bus.clock (after_step bus w).1
  unfolding after_step
  clock-after_step-least w = clock-step_outcome-least bus lawful w.0 w.1

  pub clock-after_step-most : (w : Whole S) → bus.clock (after_step bus w).1 ≤ bus.clock w.1 + CYCLES_PER_SAMPLE
  unfolding after_step
  clock-after_step-most w = clock-step_outcome-most bus lawful w.0 w.1

  module _ (samples : ℕ) where
    pub after_steps-reached : (steps : ℕ) (w : Whole S) → samples ≤ bus.due w.1 → after_steps bus samples steps w ≡ w
    after_steps-reached zero w all = refl
    after_steps-reached (suc steps) w all = ap (λ (b : Bool). if b then w else after_steps bus samples steps (after_step bus w)) (le-leb samples (bus.due w.1) all)

    -- all numbers of steps that are enough do the same
    after_steps-enough : (i j : ℕ) (w : Whole S) → CYCLES_PER_SAMPLE * samples ≤ bus.clock w.1 + i → CYCLES_PER_SAMPLE * samples ≤ bus.clock w.1 + j → after_steps bus samples i w ≡ after_steps bus samples j w
    after_steps-enough zero j w first second = let due = lawful.samples w.1 in sym (after_steps-reached j w (omega arith))
    after_steps-enough (suc i) zero w first second = let due = lawful.samples w.1 in after_steps-reached (suc i) w (omega arith)
    after_steps-enough (suc i) (suc j) w first second =
        let later = clock-after_step-least w in
        ap (λ (rest : Whole S). if nat_le samples (bus.due w.1) then w else rest) (after_steps-enough i j (after_step bus w) (omega arith) (omega arith))

    pub after_run-reached : (w : Whole S) → samples ≤ bus.due w.1 → after_run bus samples w ≡ w
    unfolding after_run
    after_run-reached w all = after_steps-reached (CYCLES_PER_SAMPLE * samples - bus.clock w.1) w all

    pub after_run-next : (w : Whole S) → bus.due w.1 < samples → after_run bus samples w ≡ after_run bus samples (after_step bus w)
    unfolding after_run
    after_run-next w more =
        let due = lawful.samples w.1 in
        let later = clock-after_step-least w in
        let next = after_step bus w in
        let k = CYCLES_PER_SAMPLE * samples - bus.clock w.1 - 1 in
        let left : CYCLES_PER_SAMPLE * samples - bus.clock w.1 ≡ suc k = omega arith in
        ap (λ (steps : ℕ). after_steps bus samples steps w) left
        ∙ ap (λ (b : Bool). if b then w else after_steps bus samples k next) (lt-leb samples (bus.due w.1) more)
        ∙ after_steps-enough k (CYCLES_PER_SAMPLE * samples - bus.clock next.1) next (omega arith) (omega arith)

    -- nothing is to come once the samples are due and all was handed over
    pub items-after_run-none : {I : Type 0} (items : S → List I) (w : Whole S) (due : ℕ) → due ≡ bus.due w.1 → nat_le samples due ≡ true → (samples ≤ bus.due w.1 → items w.1 ≡ []) → items (after_run bus samples w).1 ≡ []
    items-after_run-none items w due is test none =
        let all : samples ≤ bus.due w.1 = subst (λ (n : ℕ). samples ≤ n) is (leb-true samples due test) in
        ap (λ (v : Whole S). items v.1) (after_run-reached w all) ∙ none all

    due-after_steps : (steps : ℕ) (w : Whole S) → CYCLES_PER_SAMPLE * samples ≤ bus.clock w.1 + steps → bus.due w.1 ≤ samples → bus.due (after_steps bus samples steps w).1 ≡ samples
    due-after_steps zero w enough few = let due = lawful.samples w.1 in omega arith
    due-after_steps (suc steps) w enough few =
        let next = after_step bus w in
        let due = lawful.samples w.1 in
        let later = clock-after_step-least w in
        let most = clock-after_step-most w in
        let next_due = lawful.samples next.1 in
        elim (cases_lt (bus.due w.1) samples) [
          | inl more ↦
              ap (λ (b : Bool). bus.due (if b then w else after_steps bus samples steps next).1) (lt-leb samples (bus.due w.1) more)
              ∙ due-after_steps steps next (omega arith) (omega arith)
          | inr all ↦
              let same : bus.due (after_steps bus samples (suc steps) w).1 ≡ bus.due w.1 = ap (λ (v : Whole S). bus.due v.1) (after_steps-reached (suc steps) w all) in
              omega arith
        ]

    -- at the end of a run its samples are due, and no more
    pub due-after_run : (w : Whole S) → bus.due w.1 ≤ samples → bus.due (after_run bus samples w).1 ≡ samples
    unfolding after_run
    due-after_run w few = due-after_steps (CYCLES_PER_SAMPLE * samples - bus.clock w.1) w (omega arith) few

  -- a run whose samples are due takes no step
  pub after_run-over : (samples : ℕ) (w : Whole S) (due : ℕ) → due ≡ bus.due w.1 → nat_le samples due ≡ true → after_run bus samples w ≡ w
  after_run-over samples w due is test = after_run-reached samples w (subst (λ (n : ℕ). samples ≤ n) is (leb-true samples due test))
