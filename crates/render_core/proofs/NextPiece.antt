-- The next piece of a render, from what a run of the machine with the flush statistics gives.
use Rattle.std.proofs.Common.{◌≡◌, ℕ, ◌+◌, ◌*◌, ◌/◌, ◌^◌, ◌<◌, ◌≤◌, nat_le, Bool, true, false, List, [], ◌++◌, length, refl, ap, sym, ◌∙◌, arith}
use Rattle.num_fix.specs.declared.Frame.{Frame}
use Rattle.trace_form.specs.declared.record.Record.{Record}
use Rattle.spc700_exec.specs.declared.cpu.Cpu.{Cpu}
use Rattle.chip_form.specs.ChipMeaning.{ChipMeaning}
use Rattle.lag_bus.specs.Lagging.{Lagging, lagging, after_settle, MatchesBook}
use Rattle.lag_bus.specs.LagEmits.{lag_emits}
use Rattle.render_core.specs.BetweenSteps.{HandsOver, IsOver}
use Rattle.render_core.specs.MachineRun.{Whole, after_run}
use Rattle.render_core.specs.Items.{run_frames, end_of_run}
use Rattle.render_core.specs.RenderState.{IsNextPiece}
use Rattle.lag_bus.proofs.TotalOfCalls.{samples_of_count}
use Rattle.spc700_exec.specs.Bus.{IsLawful}
use Rattle.render_core.proofs.RunBySteps.{due-after_run}
use Rattle.render_core.proofs.LaggingRun.{run_frames-lagging, run_records-lagging, end_of_run-lagging, counts-settled}
use Rattle.spc700_exec.specs.declared.bus.TheConstants.{CYCLES_PER_SAMPLE}

-- where a run to so many samples ends
abbrev end_from : {S : Type 0} → ChipMeaning S → (samples : ℕ) → Cpu → Lagging S → Whole (Lagging S)
end_from chip samples cpu bus = end_of_run (lagging chip) (lag_emits chip) samples (cpu, bus)

-- where something is to come unless it is the last one, nothing is to come only after the last one
last_from_none : (is_last : Bool) (frames : List Frame) → (is_last ≡ false → 0 < length frames) → frames ≡ [] → is_last ≡ true
last_from_none true frames more none = refl
last_from_none false frames more none =
    let some : 0 < length frames = more refl in
    let zero_long : length frames ≡ 0 = ap (length {A = Frame}) none in
    absurd (omega arith)

module _ {S : Type 0} (chip : ChipMeaning S) (samples : ℕ) (cpu next_cpu : Cpu) (bus next : Lagging S) (old_frames given : List Frame) (old_records written : List Record) (is_last : Bool) where
  abbrev frames_left : List Frame
  frames_left = run_frames (lagging chip) (lag_emits chip) samples (next_cpu, next)

  pub is_next_piece : HandsOver (lagging chip) (lag_emits chip) samples (cpu, bus) (next_cpu, next) given written → MatchesBook bus → MatchesBook next
      → (is_last ≡ true → IsOver (lagging chip) (lag_emits chip) samples (next_cpu, next))
      → (is_last ≡ false → 0 < length given + length written) → (is_last ≡ false → 0 < length frames_left)
      → (is_last ≡ false → bus.machine.clock < next.machine.clock) → (is_last ≡ false → next.machine.clock < CYCLES_PER_SAMPLE * samples) → is_last ≡ nat_le samples (next.machine.clock / CYCLES_PER_SAMPLE)
      → IsNextPiece chip (record { cpu = cpu; bus = bus; samples = samples; frames = old_frames; records = old_records })
      (record { cpu = next_cpu; bus = next; samples = samples; frames = given; records = written }) given written is_last
  is_next_piece handed matches next_matches over some more later below at_length =
      let seen = run_frames-lagging chip samples next_cpu next in
      let seen_records = run_records-lagging chip samples next_cpu next in
      let numbers = matches.numbers in
      let next_numbers = next_matches.numbers in
      let fits : bus.book.total < 2 ^ 64 = rw (← numbers.total) matches.fits in
      let made = samples_of_count (bus.machine.clock / CYCLES_PER_SAMPLE) bus.book.pending bus.book.total (next.machine.clock / CYCLES_PER_SAMPLE) next.book.pending next.book.total handed.counted matches.pending fits in
      record {
        frames = run_frames-lagging chip samples cpu bus ∙ handed.frames ∙ ap (λ (rest : List Frame). given ++ rest) (sym seen);
        records = run_records-lagging chip samples cpu bus ∙ handed.records ∙ ap (λ (rest : List Record). written ++ rest) (sym seen_records);
        done = (
          λ is. (seen ∙ (over is).frames, seen_records ∙ (over is).records),
          λ none. last_from_none is_last frames_left more (sym seen ∙ none.0),
        );
        some = some;
        later = later;
        below = below;
        counts = sym (ap (λ (w : Whole (Lagging S)). w.1.book.counts) handed.at_end);
        counted = λ is. sym (ap (λ (w : Whole (Lagging S)). (after_settle chip w.1).book.counts) (over is).still ∙ counts-settled chip next (over is).settled);
        samples = refl;
        whole = end_of_run-lagging chip samples next_cpu next ∙ sym (ap (λ (w : Whole (Lagging S)). (w.0, w.1.machine)) handed.at_end) ∙ sym (end_of_run-lagging chip samples cpu bus);
        at_length = at_length;
        rises = rw (numbers.sample, next_numbers.sample) made.0;
        total = rw (numbers.sample, next_numbers.sample, numbers.total, next_numbers.total) made.1;
      }

-- no more samples are due than wanted
module _ {S : Type 0} (chip : ChipMeaning S) (lawful : IsLawful (lagging chip)) (samples : ℕ) (cpu next_cpu : Cpu) (bus next : Lagging S) where
  pub due_at_most : (is_last : Bool) → bus.machine.clock / CYCLES_PER_SAMPLE ≤ samples → end_from chip samples cpu bus ≡ end_from chip samples next_cpu next
      → (is_last ≡ true → IsOver (lagging chip) (lag_emits chip) samples (next_cpu, next)) → (is_last ≡ false → next.machine.clock < CYCLES_PER_SAMPLE * samples)
      → next.machine.clock / CYCLES_PER_SAMPLE ≤ samples
  due_at_most false few ends over below = let less = below refl in omega arith
  due_at_most true few ends over below =
      let there : (end_from chip samples next_cpu next).1.machine.clock ≡ next.machine.clock = ap (λ (w : Whole (Lagging S)). w.1.machine.clock) (over refl).still in
      let same : (end_from chip samples cpu bus).1.machine.clock ≡ (end_from chip samples next_cpu next).1.machine.clock = ap (λ (w : Whole (Lagging S)). w.1.machine.clock) ends in
      let due : (after_run (lagging chip) samples (cpu, bus)).1.machine.clock / CYCLES_PER_SAMPLE ≡ samples = due-after_run (lagging chip) lawful samples (cpu, bus) few in
      let clock : (after_run (lagging chip) samples (cpu, bus)).1.machine.clock ≡ next.machine.clock = same ∙ there in
      omega arith
