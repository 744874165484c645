-- What the plain bus emits and counts, which makes each sample in the moment in which it falls due.
use Rattle.std.specs.Prelude.{[]}
use Rattle.chip_form.specs.Samples.{count_after}
use Rattle.lock_step.specs.declared.counts.Counts.{Counts}
use Rattle.lock_step.specs.Machine.{Machine}
use Rattle.lock_step.specs.LockStep.{samples_due}
use Rattle.lock_step.specs.Emits.{Emits}

-- the machine without what it emitted, and with no calls
abbrev pub drained_machine : {S : Type 0} → Machine S → Machine S
drained_machine m = record m { frames = []; records = []; calls = 0 }

-- each sample is a batch of its own, and none of them has a cause
abbrev pub lock_step_counts : {S : Type 0} → Machine S → Counts
lock_step_counts m = record {
  batches = samples_due m;
  register = 0;
  memory = 0;
  echo = 0;
  full = 0;
  events = 0;
  «end» = 0;
}

-- its samples are never pending, and its chip made them all
abbrev pub lock_step_emits : {S : Type 0} → Emits (Machine S)
lock_step_emits = record {
  frames = λ m. m.frames;
  records = λ m. m.records;
  cleared = drained_machine;
  pending = λ m. 0;
  total = λ m. count_after 0 (samples_due m);
  at_rest = drained_machine;
}
