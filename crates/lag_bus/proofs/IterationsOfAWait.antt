-- Over cycles in which nothing comes that is read, the machine with its flush statistics is a bus that waits.
use Rattle.std.proofs.Common.{◌≡◌, ℕ, ◌+◌, ◌-◌, ◌*◌, ◌/◌, ◌<◌, ◌≤◌, ◌++◌, Bool, true, false, not, ◌&&◌, ◌==◌, refl, sym, ap, ◌∙◌, arith, Some, None}
use Rattle.std.proofs.lemmas.Bool.{and_parts, not-true}
use Rattle.std.specs.Prelude.{if◌then◌else◌, unwrap_or}
use Rattle.aram_core.specs.Memory.{byte_at}
use Rattle.ports_timers.specs.declared.io.Io.{Io}
use Rattle.ports_timers.specs.Io.{read_answer, after_ticks_of}
use Rattle.std.specs.List.{filter}
use Rattle.chip_form.specs.Samples.{samples, in_mask}
use Rattle.spc700_exec.specs.declared.cpu.Cpu.{Cpu}
use Rattle.lag_bus.specs.LagLaws.{next_book}
use Rattle.lock_step.specs.declared.counts.Counts.{Counts}
use Rattle.lag_bus.specs.LagEmits.{lag_emits, without_items}
use Rattle.lag_bus.specs.Deferred.{Deferred, deferred_with_samples}
use Rattle.lag_bus.specs.IsLagging.{lagging_of}
use Rattle.lock_step.specs.Emits.{CountsOn}
use Rattle.lock_step.specs.WaitOfIterations.{IsWaitOf}
use Rattle.chip_form.specs.ChipMeaning.{ChipMeaning}
use Rattle.lock_step.specs.Machine.{Machine}
use Rattle.lock_step.specs.LockStep.{bus_answer, after_bus_read}
use Rattle.lag_bus.specs.Book.{may_be_written, cause_of_read, after_cause}
use Rattle.lag_bus.specs.Lagging.{Lagging, lagging, with_book}
use Rattle.idle_loops.specs.ReadOnly.{peek_of_steps, after_n_steps, IsOnlyRead}
use Rattle.ports_timers.specs.Zeros.{zeros_stay, counter_is_0, AreTimers}
use Rattle.lag_bus.specs.IdleCycles.{only_peeks, byte_seen, samples_in, with_fallen, after_wait, without_calls, IsKept}
use Rattle.ports_timers.proofs.Stays.{read_answer-stays, after_read-stays}
use Rattle.ports_timers.proofs.Fewer.{zeros_stay-less}
use Rattle.lag_bus.proofs.PassesOfAWait.{pass-wait, wait-none}
use Rattle.idle_loops.proofs.Iterations.{waited-iterations}
use Rattle.spc700_exec.specs.declared.bus.TheConstants.{CYCLES_PER_SAMPLE}

if_some : (b : Bool) (x byte : ℕ) → (if b then Some x else None) ≡ Some byte → (b ≡ true) × (x ≡ byte)
if_some true x byte h = (refl, cc)
if_some false x byte h = absurd (cc)

-- what a peek shows of its address
record IsPeek (bus_reach : Bool) (register : Bool) (counter : Bool) : Type 0 where
  free : bus_reach ≡ false
  elsewhere : register ≡ false
  zero : counter ≡ true

peek_of : (register written counter : Bool) → (not register && not written && counter) ≡ true → IsPeek written register counter
peek_of register written counter h =
    let front : (not register && not written) ≡ true = (and_parts _ counter h).0 in
    record {
      free = not-true written (and_parts (not register) _ front).1;
      elsewhere = not-true register (and_parts (not register) _ front).0;
      zero = (and_parts (not register && not written) counter h).1;
    }

module _ {S : Type 0} (chip : ChipMeaning S) where
  answer-elsewhere : (m : Machine S) (at : ℕ) → (at == 0xF3) ≡ false → bus_answer chip m at ≡ unwrap_or (read_answer m.io at) (byte_at m.memory at)
  answer-elsewhere m at other = rw other refl

  read-without_calls : (s : Lagging S) (at : ℕ) → without_calls ((lagging chip).read s at).1 ≡ without_calls ((lagging chip).read (without_calls s) at).1
  read-without_calls s at =
      let cause = cause_of_read chip s.book.reach s.machine.io.dsp_address at in
      let same = next_book chip cause (after_bus_read s.machine at) (after_bus_read (without_calls s).machine at) s.book refl refl in
      λ i. without_calls (with_book (after_bus_read (without_calls s).machine at) (same i))

  module _ (bus : Lagging S) (most : ℕ) (kept : IsKept chip bus) (small : AreTimers bus.machine.io) (stay : zeros_stay bus.machine.io bus.machine.clock most ≡ true)
      (free : bus.book.pending + samples_in bus.machine.clock most < 64) where
    answer-wait : (n at : ℕ) → n ≤ most → only_peeks bus.book.reach bus.machine.io at ≡ true
        → bus_answer chip (after_wait chip bus n).machine at ≡ bus_answer chip bus.machine at
    answer-wait n at less peeks =
        let peeked = peek_of (at == 0xF3) (may_be_written bus.book.reach at) (counter_is_0 bus.machine.io at) peeks in
        let few : bus.book.pending + samples_in bus.machine.clock n ≤ 64 = omega arith in
        let memory = kept.writes (samples_in bus.machine.clock n) at few peeked.free in
        let io = read_answer-stays at bus.machine.io bus.machine.clock n small (zeros_stay-less bus.machine.io bus.machine.clock n most less stay) peeked.zero in
        answer-elsewhere (after_wait chip bus n).machine at peeked.elsewhere
        ∙ (λ i. unwrap_or (io i) (memory i))
        ∙ sym (answer-elsewhere bus.machine at peeked.elsewhere)

    no_cause : (dsp_address at : ℕ) → (at == 0xF3) ≡ false → may_be_written bus.book.reach at ≡ false → cause_of_read chip bus.book.reach dsp_address at ≡ None
    no_cause dsp_address at other unwritten = rw (other, unwritten) refl

    read-wait : (n at : ℕ) → n ≤ most → only_peeks bus.book.reach bus.machine.io at ≡ true
        → without_calls ((lagging chip).read (after_wait chip bus n) at).1 ≡ without_calls (after_wait chip bus n)
    read-wait n at less peeks =
        let peeked = peek_of (at == 0xF3) (may_be_written bus.book.reach at) (counter_is_0 bus.machine.io at) peeks in
        let io = after_read-stays at bus.machine.io bus.machine.clock n small (zeros_stay-less bus.machine.io bus.machine.clock n most less stay) peeked.zero in
        let w = after_wait chip bus n in
        let none = no_cause w.machine.io.dsp_address at peeked.elsewhere peeked.free in
        (λ i. without_calls (with_book (after_bus_read w.machine at) (after_cause chip (none i) (after_bus_read w.machine at) w.book)))
        ∙ (λ i. without_calls (with_book (record w.machine { io = io i }) w.book))

    pub is_only_read : IsOnlyRead (lagging chip) without_calls (byte_seen chip bus) most (after_wait chip bus)
    is_only_read = record {
      pass = λ s n cycles same some few fits. pass-wait chip bus s n cycles same few (omega arith);
      byte = λ s n at byte same less sees.
          let peeked = if_some (only_peeks bus.book.reach bus.machine.io at) (bus_answer chip bus.machine at) byte sees in
          ap (λ (x : Lagging S). bus_answer chip x.machine at) same ∙ answer-wait n at less peeked.0 ∙ peeked.1;
      read = λ s n at byte same less sees.
          let peeked = if_some (only_peeks bus.book.reach bus.machine.io at) (bus_answer chip bus.machine at) byte sees in
          read-without_calls s at ∙ ap (λ (x : Lagging S). without_calls ((lagging chip).read x at).1) same ∙ sym (read-without_calls (after_wait chip bus n) at) ∙ read-wait n at less peeked.0;
    }

    -- the law: k iterations of n steps and d cycles
    pub iterations-wait : (k n d : ℕ) (cpu : Cpu) → peek_of_steps (byte_seen chip bus) n cpu ≡ Some (cpu, d) → k * d ≤ most
        → ((after_n_steps (lagging chip) (k * n) (cpu, bus)).0 ≡ cpu) × (without_calls (after_n_steps (lagging chip) (k * n) (cpu, bus)).1 ≡ without_calls (after_wait chip bus (k * d)))
    iterations-wait k n d cpu iteration fits =
        waited-iterations (lagging chip) without_calls (byte_seen chip bus) most (after_wait chip bus) is_only_read k n d (cpu, bus) cpu (refl, wait-none chip bus kept) iteration fits

  counts-waited : (clock cycles pending total new_clock new_pending new_total : ℕ) → new_clock ≡ clock + cycles → new_pending ≡ pending + samples_in clock cycles → new_total ≡ total
      → CountsOn (clock / CYCLES_PER_SAMPLE) pending total (new_clock / CYCLES_PER_SAMPLE) new_pending new_total
  counts-waited clock cycles pending total new_clock new_pending new_total one two three = record { rises = omega arith; counted = λ fits. omega arith }

  -- a bus that waited for iterations
  pub is_wait : (samples : ℕ) (cpu : Cpu) (bus new : Lagging S) (most k n d : ℕ) → IsKept chip bus → AreTimers bus.machine.io → zeros_stay bus.machine.io bus.machine.clock most ≡ true
      → bus.book.pending + samples_in bus.machine.clock most < 64 → (bus.machine.clock + most) / CYCLES_PER_SAMPLE < samples
      → peek_of_steps (byte_seen chip bus) n cpu ≡ Some (cpu, d) → k * d ≤ most → new ≡ after_wait chip bus (k * d)
      → IsWaitOf (lagging chip) (lag_emits chip) samples cpu bus new
  is_wait samples cpu bus new most k n d kept small stay free more iteration fits is =
      let there = iterations-wait bus most kept small stay free k n d cpu iteration fits in
      let clock : new.machine.clock ≡ bus.machine.clock + k * d = ap (λ (b : Lagging S). b.machine.clock) is in
      record {
        steps = k * n;
        registers = there.0;
        cleared = ap (λ (b : Lagging S). without_items b) there.1 ∙ ap (λ (b : Lagging S). without_items b) (sym is);
        frames = ap (λ (b : Lagging S). b.machine.frames) there.1 ∙ ap (λ (b : Lagging S). b.machine.frames) (sym is);
        records = ap (λ (b : Lagging S). b.machine.records) there.1 ∙ ap (λ (b : Lagging S). b.machine.records) (sym is);
        counts = counts-waited bus.machine.clock (k * d) bus.book.pending bus.book.total new.machine.clock new.book.pending new.book.total
            clock (ap (λ (b : Lagging S). b.book.pending) is) (ap (λ (b : Lagging S). b.book.total) is);
        calls = ap (λ (b : Lagging S). b.machine.calls) is;
        below = omega arith;
      }

  -- what a bus shows with some samples more that are pending, at a later moment of the clock
  pub lagging_of-fallen : (deferred : Deferred S) (io there : Io) (counts : Counts) (calls now clock later fallen : ℕ) → deferred.batches ≡ counts.batches → deferred.due ≡ clock / CYCLES_PER_SAMPLE → deferred.due + fallen ≡ later / CYCLES_PER_SAMPLE
      → lagging_of (deferred_with_samples chip deferred fallen) there later counts now ≡ with_fallen chip (lagging_of deferred io clock counts calls) fallen later there now
  lagging_of-fallen deferred io there counts calls now clock later fallen batches due number =
      λ i. record {
        machine = record {
          memory = (samples chip.one_sample fallen (due i) deferred.chip deferred.memory).memory;
          io = there;
          chip = (samples chip.one_sample fallen (due i) deferred.chip deferred.memory).state;
          mask = deferred.mask;
          clock = later;
          frames = deferred.frames ++ (samples chip.one_sample fallen (due i) deferred.chip deferred.memory).frames;
          records = deferred.records ++ filter (in_mask deferred.mask) (samples chip.one_sample fallen (due i) deferred.chip deferred.memory).records;
          calls = now;
        };
        book = record { pending = deferred.pending + fallen; events = deferred.events; reach = deferred.reach; counts = counts; total = deferred.total };
        chip_batches = batches i;
        chip_sample = number i - (deferred.pending + fallen);
        chip_total = deferred.total;
      }

  -- what a bus shows after a wait
  pub lagging_of-wait : (deferred : Deferred S) (io : Io) (clock : ℕ) (counts : Counts) (calls cycles fallen : ℕ) → deferred.batches ≡ counts.batches → deferred.due ≡ clock / CYCLES_PER_SAMPLE → fallen ≡ samples_in clock cycles
      → lagging_of (deferred_with_samples chip deferred fallen) (after_ticks_of io clock cycles) (clock + cycles) counts calls ≡ after_wait chip (lagging_of deferred io clock counts calls) cycles
  lagging_of-wait deferred io clock counts calls cycles fallen batches due is =
      let ticked = after_ticks_of io clock cycles in
      lagging_of-fallen deferred io ticked counts calls calls clock (clock + cycles) fallen batches due (omega arith)
      ∙ (λ i. with_fallen chip (lagging_of deferred io clock counts calls) (is i) (clock + cycles) ticked calls)
