-- Steps one after another, over a bus that emits, and calls that begin anew.
use Rattle.std.proofs.Common.{◌≡◌, ◌⊎◌, inl, inr, ℕ, zero, suc, ◌/◌, ◌<◌, [], refl, sym, ap, subst, ◌∙◌, arith}
use Rattle.spc700_exec.specs.declared.cpu.Cpu.{Cpu}
use Rattle.spc700_exec.specs.Bus.{BusMeaning, IsLawful}
use Rattle.spc700_exec.specs.Emitting.{IsEmitting, IsAhead}
use Rattle.spc700_exec.specs.Instruction.{step_outcome}
use Rattle.spc700_exec.proofs.Alike.{clock-cleared, IsAhead-step_outcome}
use Rattle.lock_step.specs.Emits.{Emits}
use Rattle.lock_step.specs.StepsOfRun.{AreStepsOf}
use Rattle.idle_loops.specs.ReadOnly.{after_n_steps}
use Rattle.spc700_exec.specs.declared.bus.TheConstants.{CYCLES_PER_SAMPLE}

pub after_no_steps : {S : Type 0} (bus : BusMeaning S) (w : Cpu × S) → after_n_steps bus 0 w ≡ w
unfolding after_n_steps
after_no_steps bus w = refl

after_one_more : {S : Type 0} (bus : BusMeaning S) (n : ℕ) (w : Cpu × S)
    → after_n_steps bus (suc n) w ≡ step_outcome bus (after_n_steps bus n w).0 (after_n_steps bus n w).1
unfolding after_n_steps
after_one_more bus n w = refl

-- a number below the next one is below it, or is it
below_or_same : (k n : ℕ) → k < suc n → (k < n) ⊎ (k ≡ n)
below_or_same zero zero below = inr refl
below_or_same zero (suc n) below = inl (omega arith)
below_or_same (suc k) zero below = absurd (omega arith)
below_or_same (suc k) (suc n) below = elim (below_or_same k n (omega arith)) [
  | inl less ↦ inl (omega arith)
  | inr same ↦ inr (ap suc same)
]

module _ {S : Type 0} (bus : BusMeaning S) (emits : Emits S) (samples : ℕ) (cpu : Cpu) (old : S) where
  -- before the first step
  pub no_steps : AreStepsOf bus emits samples cpu old cpu old
  no_steps =
      let none = after_no_steps bus (cpu, old) in
      record {
        steps = 0;
        begun = λ k few. absurd (omega arith);
        registers = ap (λ (w : Cpu × S). w.0) none;
        cleared = ap (λ (w : Cpu × S). emits.cleared w.1) none;
        frames = ap (λ (w : Cpu × S). emits.frames w.1) none;
        records = ap (λ (w : Cpu × S). emits.records w.1) none;
      }

  module _ (lawful : IsLawful bus) (emits_frames : IsEmitting bus emits.cleared emits.frames) (emits_records : IsEmitting bus emits.cleared emits.records) where
    -- one step more, of a bus that was brought as far
    pub one_step_more : (here : Cpu) (there : S) (next : Cpu) (new : S)
        → AreStepsOf bus emits samples cpu old here there → bus.due there < samples → (next, new) ≡ step_outcome bus here there
        → AreStepsOf bus emits samples cpu old next new
    one_step_more here there next new taken more does =
        let reached : S = (after_n_steps bus taken.steps (cpu, old)).1 in
        let clock : bus.clock reached ≡ bus.clock there = clock-cleared bus emits.cleared emits.frames emits_frames reached there taken.cleared in
        let due : bus.due reached ≡ bus.due there = lawful.samples reached ∙ ap (λ (n : ℕ). n / CYCLES_PER_SAMPLE) clock ∙ sym (lawful.samples there) in
        let last : bus.due reached < samples = subst (λ (n : ℕ). n < samples) (sym due) more in
        let ahead_frames : IsAhead emits.cleared emits.frames [] reached there = record { same = taken.cleared; front = taken.frames } in
        let ahead_records : IsAhead emits.cleared emits.records [] reached there = record { same = taken.cleared; front = taken.records } in
        let frames = IsAhead-step_outcome bus emits.cleared emits.frames emits_frames here [] reached there ahead_frames in
        let records = IsAhead-step_outcome bus emits.cleared emits.records emits_records here [] reached there ahead_records in
        let one : after_n_steps bus (suc taken.steps) (cpu, old) ≡ step_outcome bus here reached =
        after_one_more bus taken.steps (cpu, old) ∙ ap (λ (c : Cpu). step_outcome bus c reached) taken.registers in
        record {
          steps = suc taken.steps;
          begun = λ k few. elim (below_or_same k taken.steps few) [
            | inl before ↦ taken.begun k before
            | inr same ↦ subst (λ (n : ℕ). bus.due (after_n_steps bus n (cpu, old)).1 < samples) (sym same) last
          ];
          registers = ap (λ (w : Cpu × S). w.0) one ∙ frames.0 ∙ sym (ap (λ (w : Cpu × S). w.0) does);
          cleared = ap (λ (w : Cpu × S). emits.cleared w.1) one ∙ frames.1.same ∙ sym (ap (λ (w : Cpu × S). emits.cleared w.1) does);
          frames = ap (λ (w : Cpu × S). emits.frames w.1) one ∙ frames.1.front ∙ sym (ap (λ (w : Cpu × S). emits.frames w.1) does);
          records = ap (λ (w : Cpu × S). emits.records w.1) one ∙ records.1.front ∙ sym (ap (λ (w : Cpu × S). emits.records w.1) does);
        }

  -- a bus that is the same but for the number of its calls
  pub calls_anew : (here : Cpu) (there new : S) → AreStepsOf bus emits samples cpu old here there
      → emits.cleared there ≡ emits.cleared new → emits.frames there ≡ emits.frames new → emits.records there ≡ emits.records new
      → AreStepsOf bus emits samples cpu old here new
  calls_anew here there new taken cleared frames records = record {
    steps = taken.steps;
    begun = taken.begun;
    registers = taken.registers;
    cleared = taken.cleared ∙ cleared;
    frames = taken.frames ∙ frames;
    records = taken.records ∙ records;
  }
