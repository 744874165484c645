-- The machine beside its flush statistics is the machine in lock step, after every list of calls.
use Rattle.std.proofs.Common.{◌≡◌, ◌-◌, ◌≤◌, ℕ, List, [], ◌∷◌, length, drop, refl, ap, sym, ◌∙◌, arith}
use Rattle.std.proofs.lemmas.List.{length-take-le}
use Rattle.std.proofs.Math.Seq.{drop-append_seam}
use Rattle.num_fix.specs.declared.Frame.{Frame}
use Rattle.trace_form.specs.declared.record.Record.{Record}
use Rattle.chip_form.specs.ChipMeaning.{ChipMeaning}
use Rattle.chip_form.specs.ChipSaving.{ChipSaving}
use Rattle.lag_bus.specs.Lagging.{Lagging, with_book}
use Rattle.lag_bus.specs.LagEmits.{after_drain}
use Rattle.lag_bus.specs.Ready.{ready_frames, pending_frames}
use Rattle.lag_bus.specs.Calls.{Call, Read, Write, Pass, Settle, Drain, Load, after_call, lock_step_calls, lagging_calls, HasMachineInLockStep, AnswersInLockStep, DrainsFromFront}

after_call-machine : {S V : Type 0} (chip : ChipMeaning S) (saving : ChipSaving S V) (call : Call V) (bus : Lagging S)
    → (after_call (lagging_calls chip saving) call bus).machine ≡ after_call (lock_step_calls chip saving) call bus.machine
after_call-machine chip saving (Read at) bus = refl
after_call-machine chip saving (Write at value) bus = refl
after_call-machine chip saving (Pass cycles) bus = refl
after_call-machine chip saving Settle bus = refl
after_call-machine chip saving (Drain frames records) bus = refl
after_call-machine chip saving (Load saved memory) bus = refl

pub after_calls-machine : {S V : Type 0} (chip : ChipMeaning S) (saving : ChipSaving S V) → HasMachineInLockStep chip saving
after_calls-machine chip saving [] bus = refl
after_calls-machine chip saving (call ∷ calls) bus =
    rw (← after_call-machine chip saving call bus) (after_calls-machine chip saving calls (after_call (lagging_calls chip saving) call bus))

-- a read after any calls has the answer of the machine in lock step
pub read_after_calls : {S V : Type 0} (chip : ChipMeaning S) (saving : ChipSaving S V) → AnswersInLockStep chip saving
read_after_calls chip saving calls at bus = rw (← after_calls-machine chip saving calls bus) refl

-- what a drain leaves is what stands after the items that it handed over
waiting_after_ready : (pending : ℕ) (frames : List Frame) → pending_frames pending frames ≡ drop (length (ready_frames pending frames)) frames
waiting_after_ready pending frames =
    let few : length frames - pending ≤ length frames = omega arith in
    ap (λ (n : ℕ). drop n frames) (sym (length-take-le (length frames - pending) frames few))

pub after_drain-call : {S V : Type 0} (chip : ChipMeaning S) (saving : ChipSaving S V) → DrainsFromFront chip saving
after_drain-call chip saving bus records all =
    let rest : (after_drain bus).machine.records ≡ drop (length records) bus.machine.records =
    sym (ap (λ (xs : List Record). drop (length records) xs) all ∙ drop-append_seam records (after_drain bus).machine.records) in
    λ i. with_book
    (record bus.machine {
      frames = waiting_after_ready bus.book.pending bus.machine.frames i;
      records = rest i;
      calls = 0;
    })
    bus.book
