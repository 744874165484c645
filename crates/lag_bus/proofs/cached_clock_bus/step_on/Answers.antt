use Rattle.std.proofs.Common.{sym, ◌∙◌, ◌/◌, ◌<◌, refl, arith}
use Rattle.std.proofs.lemmas.Bool.Decides.{nat_tests}
use Rattle.lock_step.proofs.StepsTaken.{no_steps, calls_anew}
use Rattle.lag_bus.specs.Lagging.{lagging}
use Rattle.lag_bus.specs.LagEmits.{lag_emits}
use Rattle.lag_bus.specs.IdleCycles.{without_calls}
use Rattle.lag_bus.proofs.StepsInHand.{one_step_on}
use Rattle.lag_bus.proofs.cached_clock_bus.step_on.Goals as goal
use Rattle.spc700_exec.specs.declared.bus.TheConstants.{CYCLES_PER_SAMPLE}

pub steps-init : goal.steps-init
steps-init g c = record {
  name = refl;
  samples = refl;
  taken = no_steps (lagging g.B.C.Chip.meaning) (lag_emits g.B.C.Chip.meaning) c.args.cached.now.samples c.args.cpu.now c.args.cached.now.bus;
  calls = c.requires.calls;
  awake = c.if-cpu.false;
  on = omega arith;
}

-- one step more, since the run wasn't at its end
pub steps-preserved-then-not-has_room_for_step : goal.steps-preserved-then-not-has_room_for_step
steps-preserved-then-not-has_room_for_step g c =
    let chip = g.B.C.Chip.meaning in
    let run = c.steps.invariant.samples in
    let due = c.if-is_at_end.ensures in
    let more : c.steps.cached.bus.machine.clock / CYCLES_PER_SAMPLE < c.steps.cached.samples = grind (arith, nat_tests) in
    let taken = one_step_on chip c.args.cached.now.samples c.args.cpu.now c.args.cached.now.bus c.steps.cpu c.step_once-halted.new.cpu c.steps.cached.bus c.step_once-halted.new.cached.bus c.steps.invariant.taken (rw run at more) c.step_once-halted.ensures.does in
    let later = c.step_once-halted.ensures.some in
    let on = c.steps.invariant.on in
    rw c.if-not-begin_calls_anew.ensures.anew
    (record {
      name = c.step_once-halted.ensures.name ∙ c.steps.invariant.name;
      samples = c.step_once-halted.ensures.samples ∙ c.steps.invariant.samples;
      taken = calls_anew (lagging chip) (lag_emits chip) c.args.cached.now.samples c.args.cpu.now c.args.cached.now.bus c.step_once-halted.new.cpu c.step_once-halted.new.cached.bus (without_calls c.step_once-halted.new.cached.bus) taken refl refl refl;
      calls = omega arith;
      awake = sym c.step_once-halted.ensures.answer ∙ c.if-halted.false;
      on = omega arith;
    })

pub steps-preserved : goal.steps-preserved
steps-preserved g c =
    let chip = g.B.C.Chip.meaning in
    let run = c.steps.invariant.samples in
    let due = c.if-is_at_end.ensures in
    let more : c.steps.cached.bus.machine.clock / CYCLES_PER_SAMPLE < c.steps.cached.samples = grind (arith, nat_tests) in
    let room = c.if-not-has_room_for_step.ensures in
    let later = c.step_once-halted.ensures.some in
    let on = c.steps.invariant.on in
    record {
      name = c.step_once-halted.ensures.name ∙ c.steps.invariant.name;
      samples = c.step_once-halted.ensures.samples ∙ c.steps.invariant.samples;
      taken = one_step_on chip c.args.cached.now.samples c.args.cpu.now c.args.cached.now.bus c.steps.cpu c.step_once-halted.new.cpu c.steps.cached.bus c.step_once-halted.new.cached.bus c.steps.invariant.taken (rw run at more) c.step_once-halted.ensures.does;
      calls = grind (arith, nat_tests);
      awake = sym c.step_once-halted.ensures.answer ∙ c.if-halted.false;
      on = omega arith;
    }

pub returns-then-cpu-clause-steps : goal.returns-then-cpu-clause-steps
returns-then-cpu-clause-steps g c =
    let chip = g.B.C.Chip.meaning in
    one_step_on chip c.args.cached.now.samples c.args.cpu.now c.args.cached.now.bus c.args.cpu.now c.step_on_bus.new.cpu c.args.cached.now.bus c.step_on_bus.new.self.bus
    (no_steps (lagging chip) (lag_emits chip) c.args.cached.now.samples c.args.cpu.now c.args.cached.now.bus) c.requires.more c.step_on_bus.ensures.does

pub returns-then-halted-clause-steps : goal.returns-then-halted-clause-steps
returns-then-halted-clause-steps g c =
    let run = c.steps.invariant.samples in
    let due = c.if-is_at_end.ensures in
    let more : c.steps.cached.bus.machine.clock / CYCLES_PER_SAMPLE < c.steps.cached.samples = grind (arith, nat_tests) in
    one_step_on g.B.C.Chip.meaning c.args.cached.now.samples c.args.cpu.now c.args.cached.now.bus c.steps.cpu c.step_once-halted.new.cpu c.steps.cached.bus c.step_once-halted.new.cached.bus c.steps.invariant.taken (rw run at more) c.step_once-halted.ensures.does

pub returns-then-left-eq0-clause-steps : goal.returns-then-left-eq0-clause-steps
returns-then-left-eq0-clause-steps g c =
    let run = c.steps.invariant.samples in
    let due = c.if-is_at_end.ensures in
    let more : c.steps.cached.bus.machine.clock / CYCLES_PER_SAMPLE < c.steps.cached.samples = grind (arith, nat_tests) in
    one_step_on g.B.C.Chip.meaning c.args.cached.now.samples c.args.cpu.now c.args.cached.now.bus c.steps.cpu c.step_once-halted.new.cpu c.steps.cached.bus c.step_once-halted.new.cached.bus c.steps.invariant.taken (rw run at more) c.step_once-halted.ensures.does

pub returns-then-not-begin_calls_anew-clause-steps : goal.returns-then-not-begin_calls_anew-clause-steps
returns-then-not-begin_calls_anew-clause-steps g c =
    let run = c.steps.invariant.samples in
    let due = c.if-is_at_end.ensures in
    let more : c.steps.cached.bus.machine.clock / CYCLES_PER_SAMPLE < c.steps.cached.samples = grind (arith, nat_tests) in
    rw c.if-not-begin_calls_anew.ensures.same
    (one_step_on g.B.C.Chip.meaning c.args.cached.now.samples c.args.cpu.now c.args.cached.now.bus c.steps.cpu c.step_once-halted.new.cpu c.steps.cached.bus c.step_once-halted.new.cached.bus c.steps.invariant.taken (rw run at more) c.step_once-halted.ensures.does)
