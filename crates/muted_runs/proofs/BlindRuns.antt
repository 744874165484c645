-- Runs of machines whose chips differ in registers that no program reads which isn't noted.
use Rattle.std.proofs.Common.{◌≡◌, ℕ, zero, suc, ◌+◌, ◌-◌, ◌*◌, ◌%◌, ◌==◌, ◌&&◌, nat_le, nat_lt, List, Bool, true, false, refl, ap, sym, ◌∙◌}
use Rattle.std.specs.Prelude.{if◌then◌else◌, unwrap_or}
use Rattle.std.proofs.lemmas.Bool.{or_parts}
use Rattle.aram_core.specs.Memory.{byte_at}
use Rattle.ports_timers.specs.Io.{read_answer}
use Rattle.spc700_exec.specs.declared.cpu.Cpu.{Cpu}
use Rattle.spc700_exec.specs.declared.bus.TheConstants.{CYCLES_PER_SAMPLE}
use Rattle.spc700_exec.specs.Bus.{byte_read, after_read, after_write}
use Rattle.spc700_exec.specs.Script.{Script, Read, Write, End, cycles_at, outcome}
use Rattle.spc700_exec.specs.Instruction.{script}
use Rattle.chip_form.specs.ChipMeaning.{ChipMeaning}
use Rattle.chip_form.specs.Samples.{SampleResult}
use Rattle.lock_step.specs.Machine.{Machine}
use Rattle.lock_step.specs.LockStep.{lock_step, crosses_sample, samples_due, writes_register}
use Rattle.render_core.specs.MachineRun.{Whole, after_step, after_steps, after_run}
use Rattle.muted_runs.specs.Watching.{Watched, watched, reads_hidden, begun_watching}

-- a machine with another chip
abbrev pub with_chip : {S : Type 0} → Machine S → S → Machine S
with_chip m s = record m { chip = s }

-- a sample that leaves another chip
abbrev pub with_state : {S : Type 0} → SampleResult S → S → SampleResult S
with_state made s = record made { state = s }

-- Chips that are alike: what isn't hidden reads the same in both, and writes and samples keep them so.
pub record IsBlindTo {S : Type 0} (chip : ChipMeaning S) (hidden : ℕ → Bool) (Alike : S → S → Type 0) : Type 0 where
  pub reads : (s t : S) (address : ℕ) → Alike s t → hidden (address % 0x80) ≡ false
      → chip.register_read s (address % 0x80) ≡ chip.register_read t (address % 0x80)
  pub writes : (s t : S) (address byte : ℕ) → Alike s t → Alike (chip.register_write s address byte) (chip.register_write t address byte)
  pub gives : (k : ℕ) (s t : S) (memory : List ℕ) → Alike s t → chip.one_sample k t memory ≡ with_state (chip.one_sample k s memory) (chip.one_sample k t memory).state
  pub leaves : (k : ℕ) (s t : S) (memory : List ℕ) → Alike s t → Alike (chip.one_sample k s memory).state (chip.one_sample k t memory).state

module _ {S : Type 0} (chip : ChipMeaning S) (hidden : ℕ → Bool) where
  -- a run that is watched is that run
  abbrev seen_through : Whole (Watched S) → Whole (Machine S)
  seen_through w = (w.0, w.1.machine)

  rest_seen : (b : Bool) (cycles : ℕ) (cpu : Cpu) (w : Watched S)
      → (cpu, if b then (lock_step chip).pass w.machine cycles else w.machine) ≡ seen_through (cpu, if b then (watched chip hidden).pass w cycles else w)
  rest_seen true cycles cpu w = refl
  rest_seen false cycles cpu w = refl

  outcome_seen : (it : Script) (start made : ℕ) (w : Watched S)
      → outcome (lock_step chip) start made it w.machine ≡ seen_through (outcome (watched chip hidden) start made it w)
  outcome_seen (Read at next) start made w =
      outcome_seen (next (byte_read (watched chip hidden) at w)) start (made + 1) (after_read (watched chip hidden) at w)
  outcome_seen (Write at value next) start made w = outcome_seen next start (made + 1) (after_write (watched chip hidden) at value w)
  outcome_seen (End cpu time) start made w = rest_seen (nat_lt made (cycles_at start time)) (cycles_at start time - made) cpu w

  step_seen : (w : Whole (Watched S)) → after_step (lock_step chip) (seen_through w) ≡ seen_through (after_step (watched chip hidden) w)
  unfolding after_step
  step_seen w = outcome_seen (script w.0) w.1.machine.clock 0 w.1

  steps_seen : (samples steps : ℕ) (w : Whole (Watched S))
      → after_steps (lock_step chip) samples steps (seen_through w) ≡ seen_through (after_steps (watched chip hidden) samples steps w)
  steps_seen samples zero w = refl
  steps_seen samples (suc steps) w = by (nat_le samples (samples_due w.1.machine)) (steps_seen samples steps (after_step (watched chip hidden) w))
    where
      next : Whole (Watched S)
      next = after_step (watched chip hidden) w

      by : (b : Bool) → after_steps (lock_step chip) samples steps (seen_through next) ≡ seen_through (after_steps (watched chip hidden) samples steps next)
          → (if b then seen_through w else after_steps (lock_step chip) samples steps (after_step (lock_step chip) (seen_through w)))
          ≡ seen_through (if b then w else after_steps (watched chip hidden) samples steps next)
      by true rest = refl
      by false rest = ap (λ (v : Whole (Machine S)). after_steps (lock_step chip) samples steps v) (step_seen w) ∙ rest

  pub run_seen : (samples : ℕ) (w : Whole (Machine S))
      → after_run (lock_step chip) samples w ≡ seen_through (after_run (watched chip hidden) samples (begun_watching w))
  unfolding after_run
  run_seen samples w = steps_seen samples (CYCLES_PER_SAMPLE * samples - w.1.clock) (begun_watching w)

  -- what was noted stays noted
  rest_noted : (b : Bool) (cycles : ℕ) (w : Watched S) → (if b then (watched chip hidden).pass w cycles else w).noted ≡ w.noted
  rest_noted true cycles w = refl
  rest_noted false cycles w = refl

  outcome_noted : (it : Script) (start made : ℕ) (w : Watched S) → w.noted ≡ true → (outcome (watched chip hidden) start made it w).1.noted ≡ true
  outcome_noted (Read at next) start made w noted =
      outcome_noted (next (byte_read (watched chip hidden) at w)) start (made + 1) (after_read (watched chip hidden) at w) (rw noted refl)
  outcome_noted (Write at value next) start made w noted = outcome_noted next start (made + 1) (after_write (watched chip hidden) at value w) noted
  outcome_noted (End cpu time) start made w noted = rest_noted (nat_lt made (cycles_at start time)) (cycles_at start time - made) w ∙ noted

  step_noted : (w : Whole (Watched S)) → w.1.noted ≡ true → (after_step (watched chip hidden) w).1.noted ≡ true
  unfolding after_step
  step_noted w noted = outcome_noted (script w.0) w.1.machine.clock 0 w.1 noted

  steps_noted : (samples steps : ℕ) (w : Whole (Watched S)) → w.1.noted ≡ true → (after_steps (watched chip hidden) samples steps w).1.noted ≡ true
  steps_noted samples zero w noted = noted
  steps_noted samples (suc steps) w noted =
      by (nat_le samples (samples_due w.1.machine)) (steps_noted samples steps (after_step (watched chip hidden) w) (step_noted w noted))
    where
      next : Whole (Watched S)
      next = after_step (watched chip hidden) w

      by : (b : Bool) → (after_steps (watched chip hidden) samples steps next).1.noted ≡ true
          → (if b then w else after_steps (watched chip hidden) samples steps next).1.noted ≡ true
      by true rest = noted
      by false rest = rest

  -- so what isn't noted in the end wasn't before
  outcome_unnoted : (it : Script) (start made : ℕ) (w : Watched S) → (outcome (watched chip hidden) start made it w).1.noted ≡ false → w.noted ≡ false
  outcome_unnoted it start made w none = by w.noted refl
    where
      by : (b : Bool) → w.noted ≡ b → w.noted ≡ false
      by true was = let is = outcome_noted it start made w was in cc
      by false was = was

  steps_unnoted : (samples steps : ℕ) (w : Whole (Watched S)) → (after_steps (watched chip hidden) samples steps w).1.noted ≡ false → w.1.noted ≡ false
  steps_unnoted samples steps w none = by w.1.noted refl
    where
      by : (b : Bool) → w.1.noted ≡ b → w.1.noted ≡ false
      by true was = let is = steps_noted samples steps w was in cc
      by false was = was

  module _ (Alike : S → S → Type 0) (blind : IsBlindTo chip hidden Alike) where
    -- a machine is a watched one with another chip that is alike
    pub record IsBeside (w : Whole (Watched S)) (v : Whole (Machine S)) : Type 0 where
      pub other : S
      pub is : v ≡ (w.0, with_chip w.1.machine other)
      pub alike : Alike w.1.machine.chip other

    -- a pass
    record PassesBeside (w : Watched S) (s : S) (cycles : ℕ) : Type 0 where
      other : S
      is : (lock_step chip).pass (with_chip w.machine s) cycles ≡ with_chip ((watched chip hidden).pass w cycles).machine other
      alike : Alike ((watched chip hidden).pass w cycles).machine.chip other

    passes_beside : (w : Watched S) (s : S) (cycles : ℕ) → Alike w.machine.chip s → PassesBeside w s cycles
    passes_beside w s cycles alike = by (crosses_sample w.machine.clock cycles) refl
      where
        m : Machine S
        m = w.machine

        k : ℕ
        k = samples_due m

        by : (b : Bool) → crosses_sample m.clock cycles ≡ b → PassesBeside w s cycles
        by true crosses = record {
          other = (chip.one_sample k s m.memory).state;
          is = rw (crosses, blind.gives k m.chip s m.memory alike) refl;
          alike = rw crosses (blind.leaves k m.chip s m.memory alike);
        }
        by false crosses = record { other = s; is = rw crosses refl; alike = rw crosses alike }

    -- an answer
    same_answer : (m : Machine S) (s : S) (at : ℕ) → Alike m.chip s → reads_hidden hidden m at ≡ false
        → ((lock_step chip).read (with_chip m s) at).0 ≡ ((lock_step chip).read m at).0
    same_answer m s at alike unread = by (at == 0xF3) refl
      where
        by : (b : Bool) → (at == 0xF3) ≡ b
            → (if at == 0xF3 then chip.register_read s (m.io.dsp_address % 0x80) else unwrap_or (read_answer m.io at) (byte_at m.memory at))
            ≡ (if at == 0xF3 then chip.register_read m.chip (m.io.dsp_address % 0x80) else unwrap_or (read_answer m.io at) (byte_at m.memory at))
        by true is =
            let free : hidden (m.io.dsp_address % 0x80) ≡ false = sym (ap (λ (b : Bool). b && hidden (m.io.dsp_address % 0x80)) is) ∙ unread in
            rw is (sym (blind.reads m.chip s m.io.dsp_address alike free))
        by false is = rw is refl

    -- a write
    chip_written : (m : Machine S) (s : S) (at value : ℕ) → Alike m.chip s
        → Alike ((lock_step chip).write m at value).chip ((lock_step chip).write (with_chip m s) at value).chip
    chip_written m s at value alike = by (writes_register m.io.dsp_address at)
      where
        by : (b : Bool)
            → Alike (if b then chip.register_write m.chip m.io.dsp_address value else m.chip) (if b then chip.register_write s m.io.dsp_address value else s)
        by true = blind.writes m.chip s m.io.dsp_address value alike
        by false = alike

    -- the rest of an instruction's cycles
    rest_beside : (b : Bool) (cycles : ℕ) (cpu : Cpu) (w : Watched S) (s : S) → Alike w.machine.chip s
        → IsBeside (cpu, if b then (watched chip hidden).pass w cycles else w) (cpu, if b then (lock_step chip).pass (with_chip w.machine s) cycles else with_chip w.machine s)
    rest_beside true cycles cpu w s alike =
        let passed = passes_beside w s cycles alike in
        record { other = passed.other; is = ap (λ (m : Machine S). (cpu, m)) passed.is; alike = passed.alike }
    rest_beside false cycles cpu w s alike = record { other = s; is = refl; alike = alike }

    -- a script
    outcome_beside : (it : Script) (start made : ℕ) (w : Watched S) (s : S) → Alike w.machine.chip s
        → (outcome (watched chip hidden) start made it w).1.noted ≡ false
        → IsBeside (outcome (watched chip hidden) start made it w) (outcome (lock_step chip) start made it (with_chip w.machine s))
    outcome_beside (Read at next) start made w s alike none =
        let bus = watched chip hidden in
        let passed = passes_beside w s 1 alike in
        let unread = or_parts w.noted (reads_hidden hidden (bus.pass w 1).machine at) (outcome_unnoted (next (byte_read bus at w)) start (made + 1) (after_read bus at w) none) in
        let answer : byte_read (lock_step chip) at (with_chip w.machine s) ≡ byte_read bus at w =
        ap (λ (m : Machine S). ((lock_step chip).read m at).0) passed.is ∙ same_answer (bus.pass w 1).machine passed.other at passed.alike unread.1 in
        let after : after_read (lock_step chip) at (with_chip w.machine s) ≡ with_chip (after_read bus at w).machine passed.other =
        ap (λ (m : Machine S). ((lock_step chip).read m at).1) passed.is in
        let rest = outcome_beside (next (byte_read bus at w)) start (made + 1) (after_read bus at w) passed.other passed.alike none in
        rw (answer, after) rest
    outcome_beside (Write at value next) start made w s alike none =
        let bus = watched chip hidden in
        let passed = passes_beside w s 1 alike in
        let other : S = ((lock_step chip).write (with_chip (bus.pass w 1).machine passed.other) at value).chip in
        let after : after_write (lock_step chip) at value (with_chip w.machine s) ≡ with_chip (after_write bus at value w).machine other =
        ap (λ (m : Machine S). (lock_step chip).write m at value) passed.is in
        let rest = outcome_beside next start (made + 1) (after_write bus at value w) other (chip_written (bus.pass w 1).machine passed.other at value passed.alike) none in
        rw after rest
    outcome_beside (End cpu time) start made w s alike none = rest_beside (nat_lt made (cycles_at start time)) (cycles_at start time - made) cpu w s alike

    step_beside : (w : Whole (Watched S)) (s : S) → Alike w.1.machine.chip s → (after_step (watched chip hidden) w).1.noted ≡ false
        → IsBeside (after_step (watched chip hidden) w) (after_step (lock_step chip) (w.0, with_chip w.1.machine s))
    unfolding after_step
    step_beside w s alike none = outcome_beside (script w.0) w.1.machine.clock 0 w.1 s alike none

    steps_beside : (samples steps : ℕ) (w : Whole (Watched S)) (s : S) → Alike w.1.machine.chip s
        → (after_steps (watched chip hidden) samples steps w).1.noted ≡ false
        → IsBeside (after_steps (watched chip hidden) samples steps w) (after_steps (lock_step chip) samples steps (w.0, with_chip w.1.machine s))
    steps_beside samples zero w s alike none = record { other = s; is = refl; alike = alike }
    steps_beside samples (suc steps) w s alike none =
        by (nat_le samples (samples_due w.1.machine)) (steps_beside samples steps (after_step (watched chip hidden) w)) none
      where
        next : Whole (Watched S)
        next = after_step (watched chip hidden) w

        by : (b : Bool)
            → ((t : S) → Alike next.1.machine.chip t → (after_steps (watched chip hidden) samples steps next).1.noted ≡ false
            → IsBeside (after_steps (watched chip hidden) samples steps next) (after_steps (lock_step chip) samples steps (next.0, with_chip next.1.machine t)))
            → (if b then w else after_steps (watched chip hidden) samples steps next).1.noted ≡ false
            → IsBeside (if b then w else after_steps (watched chip hidden) samples steps next)
            (if b then (w.0, with_chip w.1.machine s) else after_steps (lock_step chip) samples steps (after_step (lock_step chip) (w.0, with_chip w.1.machine s)))
        by true rest unread = record { other = s; is = refl; alike = alike }
        by false rest unread =
            let one = step_beside w s alike (steps_unnoted samples steps next unread) in
            rw one.is (rest one.other one.alike unread)

    pub run_beside : (samples : ℕ) (w : Whole (Machine S)) (s : S) → Alike w.1.chip s
        → (after_run (watched chip hidden) samples (begun_watching w)).1.noted ≡ false
        → IsBeside (after_run (watched chip hidden) samples (begun_watching w)) (after_run (lock_step chip) samples (w.0, with_chip w.1 s))
    unfolding after_run
    run_beside samples w s alike none = steps_beside samples (CYCLES_PER_SAMPLE * samples - w.1.clock) (begun_watching w) s alike none
