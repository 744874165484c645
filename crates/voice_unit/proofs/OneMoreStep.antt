-- One step more of a voice over a batch, and what it gives.
use Rattle.std.proofs.Common.{◌≡◌, ◌≢◌, ℕ, ◌+◌, ◌<◌, ◌==◌, Bool, true, false, length, get_or, slice_set, refl, ◌∙◌, add-one, arith}
use Rattle.std.proofs.lemmas.Bool.Decides.{nat_tests}
use Rattle.std.proofs.lemmas.List.{get_or-set_same, get_or-set_other}
use Rattle.rate_clock.specs.Counter.{counter_at}
use Rattle.voice_unit.specs.Batch.{Lane, steps, answer_of_step, voice_at, answer_at}
use Rattle.voice_unit.specs.Voice.{VoiceState, voice_step, voice_answer}
use Rattle.voice_unit.specs.RunOfVoice.{silent_answer, IsRun}
use Rattle.voice_unit.specs.declared.interface.VoiceOut.{VoiceOut}
use Rattle.voice_unit.specs.declared.out_row.OutRow.{OutRow}

-- the voice after one sample more
pub more_steps : (lane : Lane) (n : ℕ) → voice_at lane (n + 1) ≡ voice_step (voice_at lane n) lane.regs (lane.inputs n) lane.memory (counter_at (lane.k + n))
unfolding steps
more_steps lane n = rw add-one

-- a voice before its first step
pub none_run : (lane : Lane) (row : OutRow) → IsRun lane 0 row row lane.voice
unfolding steps
none_run lane row = record {
  voice_is = refl;
  answers_are = λ j below. absurd (omega (arith, below));
  others = λ j above. refl;
}

pub one_more_run : (lane : Lane) (n : ℕ) (before after : OutRow) (voice now : VoiceState) (answer : VoiceOut)
    → IsRun lane n before after voice
    → n < length after.items
    → now ≡ voice_step voice lane.regs (lane.inputs n) lane.memory (counter_at (lane.k + n))
    → answer ≡ voice_answer voice lane.regs (lane.inputs n) lane.memory lane.table (counter_at (lane.k + n))
    → IsRun lane (n + 1) before (record { items = slice_set after.items n answer }) now
unfolding answer_of_step
one_more_run lane n before after voice now answer run long is_now is_answer = record {
  voice_is = rw (more_steps lane n, ← run.voice_is) is_now;
  answers_are = λ j below. by j (j == n) refl below;
  others = λ j above.
      let other : j ≢ n = λ e. absurd (omega (arith, e, above)) in
      get_or-set_other after.items n j answer silent_answer other ∙ run.others j (omega (arith, above));
}
  where
    by : (j : ℕ) (b : Bool) → (j == n) ≡ b → j < n + 1 → get_or (slice_set after.items n answer) j silent_answer ≡ answer_at lane j
    by j true e below =
        let here : j ≡ n = grind (arith, nat_tests, e) in
        rw (here, get_or-set_same after.items n answer silent_answer long, ← run.voice_is) is_answer
    by j false e below =
        let other : j ≢ n = grind (arith, nat_tests, e) in
        get_or-set_other after.items n j answer silent_answer other ∙ run.answers_are j (omega (arith, below, other))
