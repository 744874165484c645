-- One sample more of a voice over a batch.
use Rattle.std.proofs.Common.{◌≡◌, ◌≢◌, ℕ, ◌+◌, ◌/◌, ◌^◌, ◌<◌, ◌≤◌, ◌==◌, List, ℤ, pos, Bool, true, false, length, slice_index, slice_set, if◌then◌else◌, refl, ◌∙◌, arith}
use Rattle.std.proofs.lemmas.Bool.Decides.{nat_tests}
use Rattle.std.proofs.lemmas.List.{get_or-set_same, get_or-set_other}
use Rattle.std.proofs.lemmas.Nat.{pow-add}
use Rattle.num_fix.specs.Arithmetic.{high_byte}
use Rattle.num_fix.specs.SignedWords.{number_at}
use Rattle.rate_clock.specs.Counter.{counter_at}
use Rattle.voice_unit.specs.Batch.{Lane, steps, answer_of_step, voice_at, answer_at}
use Rattle.voice_unit.specs.Voice.{VoiceState, is_keyed, voice_step, voice_answer}
use Rattle.voice_batch.specs.Play.{IsPlayed}
use Rattle.voice_unit.proofs.OneMoreStep.{more_steps}

-- a voice before its first sample
pub none_played : (lane : Lane) (v : ℕ) (before : List ℕ) (outs : List ℤ) → IsPlayed lane v 0 before before outs lane.voice
unfolding steps
none_played lane v before outs = record {
  voice_is = refl;
  outs_are = λ j below. absurd (omega (arith, below));
  ends_are = λ j below. absurd (omega (arith, below));
  others = λ j above. refl;
}

-- the row of ends with the bit of a voice that comes to an end or doesn't
abbrev pub with_ended : (ends : List ℕ) → (n v : ℕ) → (ended : Bool) → List ℕ
with_ended ends n v ended = if ended then slice_set ends n (slice_index ends n + 2 ^ v) else ends

with_ended-same : (ends : List ℕ) (n v : ℕ) (ended : Bool) → n < length ends → slice_index (with_ended ends n v ended) n ≡ slice_index ends n + (if ended then 2 ^ v else 0)
with_ended-same ends n v true within = get_or-set_same ends n (slice_index ends n + 2 ^ v) 0 within
with_ended-same ends n v false within = omega arith

pub with_ended-other : (ends : List ℕ) (n v j : ℕ) (ended : Bool) → j ≢ n → slice_index (with_ended ends n v ended) j ≡ slice_index ends j
with_ended-other ends n v j true other = get_or-set_other ends n j (slice_index ends n + 2 ^ v) 0 other
with_ended-other ends n v j false other = refl

-- twice a power of 2
pub doubled : (v : ℕ) → 2 ^ (v + 1) ≡ 2 ^ v + 2 ^ v
doubled v = pow-add 2 v 1 ∙ omega arith

-- bytes below the bit of the next voice stay below it
pub with_ended-bound : (ends : List ℕ) (n v i : ℕ) (ended : Bool) → n < length ends → slice_index ends n < 2 ^ v → slice_index ends i < 2 ^ (v + 1)
    → slice_index (with_ended ends n v ended) i < 2 ^ (v + 1)
with_ended-bound ends n v i true long room below = by (i == n) refl
  where
    by : (b : Bool) → (i == n) ≡ b → slice_index (with_ended ends n v true) i < 2 ^ (v + 1)
    by true e = let here : i ≡ n = grind (arith, nat_tests, e) in rw (here, with_ended-same ends n v true long, doubled v) (omega (arith, room))
    by false e = let other : i ≢ n = grind (arith, nat_tests, e) in rw (with_ended-other ends n v i true other) below
with_ended-bound ends n v i false long room below = below

pub one_more_played : (lane : Lane) (v n : ℕ) (before ends : List ℕ) (outs : List ℤ) (voice now : VoiceState) (out : ℤ) (ended : Bool)
    → IsPlayed lane v n before ends outs voice
    → n < length outs → n < length ends
    → now ≡ voice_step voice lane.regs (lane.inputs n) lane.memory (counter_at (lane.k + n))
    → out ≡ (voice_answer voice lane.regs (lane.inputs n) lane.memory lane.table (counter_at (lane.k + n))).out
    → ended ≡ (voice_answer voice lane.regs (lane.inputs n) lane.memory lane.table (counter_at (lane.k + n))).ended
    → IsPlayed lane v (n + 1) before (with_ended ends n v ended) (slice_set outs n out) now
unfolding answer_of_step
one_more_played lane v n before ends outs voice now out ended played long_outs long_ends is_now is_out is_ended = record {
  voice_is = rw (more_steps lane n, ← played.voice_is) is_now;
  outs_are = λ j below. outs_by j (j == n) refl below;
  ends_are = λ j below. ends_by j (j == n) refl below;
  others = λ j above.
      let other : j ≢ n = λ e. absurd (omega (arith, e, above)) in
      with_ended-other ends n v j ended other ∙ played.others j (omega (arith, above));
}
  where
    outs_by : (j : ℕ) (b : Bool) → (j == n) ≡ b → j < n + 1 → number_at (slice_set outs n out) j ≡ (answer_at lane j).out
    outs_by j true e below =
        let here : j ≡ n = grind (arith, nat_tests, e) in
        rw (here, get_or-set_same outs n out (pos 0) long_outs, ← played.voice_is) is_out
    outs_by j false e below =
        let other : j ≢ n = grind (arith, nat_tests, e) in
        get_or-set_other outs n j out (pos 0) other ∙ played.outs_are j (omega (arith, below, other))

    ends_by : (j : ℕ) (b : Bool) → (j == n) ≡ b → j < n + 1 → slice_index (with_ended ends n v ended) j ≡ slice_index before j + (if (answer_at lane j).ended then 2 ^ v else 0)
    ends_by j true e below =
        let here : j ≡ n = grind (arith, nat_tests, e) in
        let same : slice_index ends n ≡ slice_index before n = played.others n (omega arith) in
        rw (here, with_ended-same ends n v ended long_ends, same, is_ended, played.voice_is) refl
    ends_by j false e below =
        let other : j ≢ n = grind (arith, nat_tests, e) in
        with_ended-other ends n v j ended other ∙ played.ends_are j (omega (arith, below, other))

-- an answer by its output, its level, whether it comes to an end, the voice after it and whether it is keyed
answer_is : (lane : Lane) (j : ℕ) → answer_at lane j ≡ record {
  out = (answer_at lane j).out;
  level = (answer_at lane j).level;
  envx = (answer_at lane j).level / 0x10;
  outx = high_byte (answer_at lane j).out;
  block = (voice_at lane (j + 1)).block;
  ended = (answer_at lane j).ended;
  keyed = is_keyed (lane.inputs j);
}
unfolding answer_of_step voice_answer
answer_is lane j = rw (more_steps lane j) refl

-- the answer of the last sample, read off what the samples leave
pub last_answer : (lane : Lane) (v j : ℕ) (before after : List ℕ) (outs : List ℤ) (voice : VoiceState) (level : ℕ) (ended : Bool)
    → IsPlayed lane v (j + 1) before after outs voice → level ≡ (answer_at lane j).level → slice_index before j < 2 ^ v
    → (slice_index after j < 2 ^ v → ended ≡ false) → (2 ^ v ≤ slice_index after j → ended ≡ true)
    → record {
      out = number_at outs j;
      level = level;
      envx = level / 0x10;
      outx = high_byte (number_at outs j);
      block = voice.block;
      ended = ended;
      keyed = is_keyed (lane.inputs j);
    } ≡ answer_at lane j
last_answer lane v j before after outs voice level ended played level_is lower unmarked marked =
    rw (answer_is lane j, played.outs_are j (omega arith), level_is, played.voice_is, ended_by (answer_at lane j).ended (played.ends_are j (omega arith))) refl
  where
    ended_by : (b : Bool) → slice_index after j ≡ slice_index before j + (if b then 2 ^ v else 0) → ended ≡ b
    ended_by true is = marked (omega (arith, is))
    ended_by false is = unmarked (omega (arith, is, lower))
