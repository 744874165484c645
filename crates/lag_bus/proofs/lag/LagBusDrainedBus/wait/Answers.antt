use Rattle.std.proofs.Common.{◌≡◌, ◌+◌, ◌*◌, ◌-◌, ◌/◌, ◌<◌, ◌≤◌, ℕ, refl, sym, ap, ◌∙◌, subst, arith, Some}
use Rattle.std.proofs.Math.Nat.{mod-add-div'}
use Rattle.aram_core.specs.Memory.{byte_at}
use Rattle.ports_timers.specs.declared.io.Io.{Io}
use Rattle.chip_form.specs.Samples.{samples}
use Rattle.idle_loops.specs.ReadOnly.{peek_of_steps}
use Rattle.ports_timers.specs.Zeros.{AreTimers}
use Rattle.lock_step.specs.declared.counts.Counts.{Counts}
use Rattle.lag_bus.specs.Deferred.{Deferred}
use Rattle.lag_bus.specs.Deferred.{deferred_with_samples}
use Rattle.lag_bus.specs.Lagging.{lagging}
use Rattle.lag_bus.specs.LagEmits.{lag_emits}
use Rattle.lag_bus.specs.IdleCycles.{byte_seen, samples_in, IsKept}
use Rattle.lag_bus.specs.IsLagging.{lagging_of}
use Rattle.lock_step.proofs.NoWait.{no_wait}
use Rattle.lag_bus.proofs.IterationsOfAWait.{is_wait, lagging_of-wait}
use Rattle.lag_bus.proofs.lag.LagBusDrainedBus.wait.Goals as goal
use Rattle.spc700_exec.specs.declared.bus.TheConstants.{CYCLES_PER_SAMPLE}

pub returns-then-not-is_drained : goal.returns-then-not-is_drained
returns-then-not-is_drained g c =
    rw (← c.self.view_is)
    (no_wait (lagging g.C.Chip.meaning) (lag_emits g.C.Chip.meaning) c.args.samples c.args.cpu.now _ (rw (← c.self.view_is) at c.requires.more))

pub returns-in_default : goal.returns-in_default
returns-in_default g c =
    rw (← c.self.view_is)
    (no_wait (lagging g.C.Chip.meaning) (lag_emits g.C.Chip.meaning) c.args.samples c.args.cpu.now _ (rw (← c.self.view_is) at c.requires.more))

pub returns : goal.returns
returns g c =
    let chip = g.C.Chip.meaning in
    let deferred : Deferred g.row.C-State.Denot = c.self.inside.deferred in
    let io : Io = c.self.inside.time.io in
    let clock : ℕ = c.self.inside.time.clock in
    let counts : Counts = c.self.inside.counts in
    let calls : ℕ = c.self.inside.time.calls in
    let most : ℕ = c.cycles_to_wait.result in
    let d : ℕ = c.from-2.result in
    let k : ℕ = most / c.from.result in
    let due : deferred.due ≡ clock / CYCLES_PER_SAMPLE = c.self.invariant.same_due in
    let kept : IsKept chip (lagging_of deferred io clock counts calls) = record {
      numbers = record { batches = c.self.invariant.same_batches; sample = ap (λ (n : ℕ). n - deferred.pending) due; total = refl };
      writes = λ fallen at few free. subst (λ (n : ℕ). byte_at (samples chip.one_sample fallen n deferred.chip deferred.memory).memory at ≡ byte_at deferred.memory at) due (c.is_drained.ensures.writes fallen at few free);
    } in
    let small : AreTimers io = rw (← c.self.view_is) at c.cycles_to_wait.ensures.timers in
    let free : deferred.pending + samples_in clock most < 64 = rw (← c.self.view_is) at c.cycles_to_wait.ensures.free in
    let tried = c.in-Some.ensures.iteration in
    let length : c.in-Some.iteration ≡ d = sym c.from-2.ensures in
    let iteration : peek_of_steps (byte_seen chip (lagging_of deferred io clock counts calls)) tried.0 c.args.cpu.now ≡ Some (c.args.cpu.now, d) =
    (rw (← c.self.view_is) at tried.1) ∙ (λ i. Some (c.args.cpu.now, length i)) in
    let same : c.from.result ≡ d = c.from.ensures ∙ sym c.from-2.ensures in
    let parts = mod-add-div' most c.from.result in
    let whole : k * c.from.result ≤ most = omega arith in
    let fits : k * d ≤ most = subst (λ (n : ℕ). k * n ≤ most) same whole in
    let fallen : ℕ = samples_in clock (k * d) in
    let moment : c.clock-clock.result ≡ clock = c.clock-clock.ensures.clock in
    let pends : c.queue_all.new.deferred ≡ deferred_with_samples chip deferred fallen = c.queue_all.ensures ∙ (λ i. deferred_with_samples chip deferred (samples_in (moment i) (k * d))) in
    rw (← c.self.view_is)
    (is_wait chip c.args.samples c.args.cpu.now (lagging_of deferred io clock counts calls) (lagging_of c.queue_all.new.deferred c.wait.new.self.io c.wait.new.self.clock counts c.wait.new.self.calls)
    most k tried.0 d kept small (rw (← c.self.view_is) at c.cycles_to_wait.ensures.zeros) free (rw (← c.self.view_is) at c.cycles_to_wait.ensures.below) iteration fits
    ((λ i. lagging_of (pends i) (c.wait.ensures i).io (c.wait.ensures i).clock counts (c.wait.ensures i).calls) ∙ lagging_of-wait chip deferred io clock counts calls (k * d) fallen c.self.invariant.same_batches due refl))
