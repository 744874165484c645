-- The keys and the noise of a batch, apart from each other. The keys change at its first two polls alone.
use Rattle.std.proofs.Common.{◌≡◌, ◌≢◌, ℕ, zero, suc, ◌+◌, ◌%◌, ◌<◌, ◌≤◌, ◌==◌, Bool, true, false, slice_index, inl, inr, refl, ap, sym, ◌∙◌, arith}
use Rattle.std.proofs.lemmas.Bool.{cases_lt}
use Rattle.std.proofs.lemmas.Bool.Decides.{nat_tests}
use Rattle.rate_clock.specs.Counter.{counter_at, fires}
use Rattle.rate_clock.specs.Noise.{next_noise}
use Rattle.dsp_state.specs.Registers.{noise_rate}
use Rattle.dsp_state.specs.Results.{without_bits}
use Rattle.dsp_state.specs.Sample.{after_poll, after_noise, before_voices}
use Rattle.dsp_state.specs.declared.registers.TheConstants.{FLG}
use Rattle.dsp_state.specs.declared.state.ChipState.{ChipState}
use Rattle.dsp_state.proofs.EightVoices.{polled_part}
use Rattle.batch_rows.specs.KeysAndNoise.{noise_after, with_keys_of, IsUnkeyed}
use Rattle.batch_rows.specs.Rows.{keys_after}
use Rattle.batch_rows.proofs.OneMore.{registers-after_poll, registers-keys_after}
use Rattle.batch_rows.proofs.ResultsOfBatch.{at_poll, between_polls, settled, latched_once}

-- which samples poll the keys
pub poll_of : (k j : ℕ) → (j % 2 == k % 2) ≡ ((k + j) % 2 == 0)
poll_of k j = by (j % 2 == k % 2) refl
  where
    by : (b : Bool) → (j % 2 == k % 2) ≡ b → b ≡ ((k + j) % 2 == 0)
    by true e = let same : j % 2 ≡ k % 2 = grind (arith, nat_tests, e) in let even : (k + j) % 2 ≡ 0 = omega (arith, same) in rw even refl
    by false e =
        let other : j % 2 ≢ k % 2 = grind (arith, nat_tests, e) in
        let odd : (k + j) % 2 ≡ 1 = omega (arith, other) in
        rw odd refl

-- the keys before the first sample
pub no_poll : (k : ℕ) (s : ChipState) → s ≡ with_keys_of s (keys_after k s 0)
unfolding keys_after
no_poll k s = refl

-- and after one sample more
pub one_more_poll : (k : ℕ) (s : ChipState) (j : ℕ) → after_poll (with_keys_of s (keys_after k s j)) (k + j) ≡ with_keys_of s (keys_after k s (suc j))
unfolding after_poll after_noise keys_after
one_more_poll k s j = by ((k + j) % 2 == 0) refl
  where
    by : (b : Bool) → ((k + j) % 2 == 0) ≡ b → after_poll (with_keys_of s (keys_after k s j)) (k + j) ≡ with_keys_of s (keys_after k s (suc j))
    by true even = rw even refl
    by false odd = rw odd refl

-- where no key-on is pending or latched, that stays so
unkeyed_next : (s : ChipState) (k : ℕ) → IsUnkeyed s → IsUnkeyed (before_voices s k)
unkeyed_next s k none = by (k % 2 == 0) refl
  where
    left : without_bits s.hidden.kon_pending s.hidden.kon_latched ≡ 0
    left = ap (λ (one : ℕ). without_bits one s.hidden.kon_latched) none.kon_pending ∙ ap (λ (one : ℕ). without_bits 0 one) none.kon_latched

    by : (b : Bool) → (k % 2 == 0) ≡ b → IsUnkeyed (before_voices s k)
    by true even = let both = at_poll s k even in record { kon_pending = both.0 ∙ left; kon_latched = both.1 ∙ left }
    by false odd = let both = between_polls s k odd in record { kon_pending = both.0 ∙ none.kon_pending; kon_latched = both.1 ∙ none.kon_latched }

pub unkeyed_later : (k : ℕ) (s : ChipState) (from j : ℕ) → from ≤ j → IsUnkeyed (keys_after k s from) → IsUnkeyed (keys_after k s j)
unfolding keys_after
unkeyed_later k s from zero above none = let same : from ≡ zero = omega (arith, above) in rw same at none
unkeyed_later k s from (suc j) above none = elim (cases_lt j from) [
  | inl last ↦ (let same : from ≡ suc j = omega (arith, above, last) in rw same at none)
  | inr more ↦ unkeyed_next (keys_after k s j) (k + j) (unkeyed_later k s from j more none)
]

-- it is so after four samples: two of them poll
pub unkeyed_after_four : (k : ℕ) (s : ChipState) → s.hidden.kon_pending < 0x100 → IsUnkeyed (keys_after k s 4)
unfolding keys_after
unkeyed_after_four k s small = by (k % 2 == 0) refl
  where
    by : (b : Bool) → (k % 2 == 0) ≡ b → IsUnkeyed (keys_after k s 4)
    by true e =
        let even : k % 2 ≡ 0 = grind (arith, nat_tests, e) in
        let first : ((k + 0) % 2 == 0) ≡ true = let at : (k + 0) % 2 ≡ 0 = omega (arith, even) in rw at refl in
        let second : ((k + 2) % 2 == 0) ≡ true = let at : (k + 2) % 2 ≡ 0 = omega (arith, even) in rw at refl in
        let last : ((k + 3) % 2 == 0) ≡ false = let at : (k + 3) % 2 ≡ 1 = omega (arith, even) in rw at refl in
        let none : (keys_after k s 3).hidden.kon_latched ≡ 0 = latched_once k s 0 1 small first second in
        let same : (keys_after k s 3).hidden.kon_pending ≡ (keys_after k s 3).hidden.kon_latched = settled k s 0 2 first in
        let stays = between_polls (keys_after k s 3) (k + 3) last in
        record { kon_pending = stays.0 ∙ same ∙ none; kon_latched = stays.1 ∙ none }
    by false e =
        let odd : k % 2 ≡ 1 = grind (arith, nat_tests, e) in
        let first : ((k + 1) % 2 == 0) ≡ true = let at : (k + 1) % 2 ≡ 0 = omega (arith, odd) in rw at refl in
        let second : ((k + 3) % 2 == 0) ≡ true = let at : (k + 3) % 2 ≡ 0 = omega (arith, odd) in rw at refl in
        let none : (keys_after k s 4).hidden.kon_latched ≡ 0 = latched_once k s 1 1 small first second in
        let same : (keys_after k s 4).hidden.kon_pending ≡ (keys_after k s 4).hidden.kon_latched = settled k s 1 2 first in
        record { kon_pending = same ∙ none; kon_latched = none }

-- so samples after which none is pending or latched leave the keys as they are
pub all_keys : (k : ℕ) (s : ChipState) (keyed n : ℕ) → keyed ≤ n → (keyed < n → IsUnkeyed (keys_after k s keyed)) → with_keys_of s (keys_after k s keyed) ≡ with_keys_of s (keys_after k s n)
all_keys k s keyed n few rest = elim (cases_lt keyed n) [
  | inl more ↦ (let now = rest more in let end = unkeyed_later k s keyed n few now in rw (now.kon_pending, now.kon_latched, end.kon_pending, end.kon_latched) refl)
  | inr all ↦ (let same : keyed ≡ n = omega (arith, few, all) in rw same refl)
]

-- a rate fires at none of the samples from one of them on up to another
abbrev pub IsStill : (rate k from to : ℕ) → Type 0
IsStill rate k from to = (j : ℕ) → from ≤ j → j < to → fires rate (counter_at (k + j)) ≡ false

-- so the noise stays
pub still_noise : (rate k noise from j : ℕ) → from ≤ j → IsStill rate k from j → noise_after rate k noise j ≡ noise_after rate k noise from
unfolding noise_after
still_noise rate k noise from zero above still = let same : from ≡ zero = omega (arith, above) in rw same refl
still_noise rate k noise from (suc j) above still = elim (cases_lt j from) [
  | inl last ↦ (let same : from ≡ suc j = omega (arith, above, last) in rw same refl)
  | inr more ↦ (let quiet : fires rate (counter_at (k + j)) ≡ false = still j more (omega arith) in
      rw quiet (still_noise rate k noise from j more (λ i early late. still i early (omega (arith, late)))))
]

-- up to its rate's first firing it is the first
pub noise_before : (rate k noise at j : ℕ) → IsStill rate k 0 at → j ≤ at → noise_after rate k noise j ≡ noise
unfolding noise_after
noise_before rate k noise at j still upto = still_noise rate k noise 0 j (omega arith) (λ i early late. still i early (omega (arith, late, upto)))

-- and from one firing to another the next
pub noise_between : (rate k noise at next j : ℕ) → fires rate (counter_at (k + at)) ≡ true → IsStill rate k (at + 1) next → at < j → j ≤ next
    → noise_after rate k noise j ≡ next_noise (noise_after rate k noise at)
unfolding noise_after
noise_between rate k noise at next j fired still after upto =
    let more : at + 1 ≡ suc at = omega arith in
    still_noise rate k noise (at + 1) j (omega (arith, after)) (λ i early late. still i early (omega (arith, late, upto))) ∙ (rw (more, fired) refl)

-- a poll leaves the noise
noise-after_poll : (s : ChipState) (k : ℕ) → (after_poll s k).hidden.noise ≡ s.hidden.noise
unfolding after_poll
noise-after_poll s k = polled_part (λ (t : ChipState). t.hidden.noise) (k % 2 == 0) s (without_bits s.hidden.kon_pending s.hidden.kon_latched) refl

-- so the noise goes through a batch by itself
pub noise-keys_after : (k : ℕ) (s : ChipState) (n : ℕ) → (keys_after k s n).hidden.noise ≡ noise_after (noise_rate (slice_index s.registers FLG)) k s.hidden.noise n
unfolding keys_after after_noise noise_after
noise-keys_after k s zero = refl
noise-keys_after k s (suc n) =
    let now : ChipState = keys_after k s n in
    rw (noise-after_poll now (k + n), registers-after_poll now (k + n), registers-keys_after k s n, noise-keys_after k s n) refl

-- a state with the keys and the noise of another
abbrev pub with_keys_and_noise_of : ChipState → (other : ChipState) → ChipState
with_keys_and_noise_of s other = record s { hidden = record s.hidden { kon_pending = other.hidden.kon_pending; kon_latched = other.hidden.kon_latched; noise = other.hidden.noise } }

keys_and_noise_next : (s : ChipState) (k : ℕ) → with_keys_and_noise_of s (before_voices s k) ≡ before_voices s k
unfolding after_poll after_noise
keys_and_noise_next s k = by (k % 2 == 0) refl
  where
    by : (b : Bool) → (k % 2 == 0) ≡ b → with_keys_and_noise_of s (before_voices s k) ≡ before_voices s k
    by true even = rw even refl
    by false odd = rw odd refl

-- nothing else is changed
pub keys_and_noise_alone : (k : ℕ) (s : ChipState) (n : ℕ) → with_keys_and_noise_of s (keys_after k s n) ≡ keys_after k s n
unfolding keys_after
keys_and_noise_alone k s zero = refl
keys_and_noise_alone k s (suc n) =
    let now : ChipState = keys_after k s n in
    ap (λ (t : ChipState). with_keys_and_noise_of t (before_voices now (k + n))) (keys_and_noise_alone k s n) ∙ keys_and_noise_next now (k + n)

pub voices-keys_after : (k : ℕ) (s : ChipState) (n : ℕ) → (keys_after k s n).hidden.voices ≡ s.hidden.voices
voices-keys_after k s n = ap (λ (t : ChipState). t.hidden.voices) (sym (keys_and_noise_alone k s n))

pub echo-keys_after : (k : ℕ) (s : ChipState) (n : ℕ) → (keys_after k s n).hidden.echo ≡ s.hidden.echo
echo-keys_after k s n = ap (λ (t : ChipState). t.hidden.echo) (sym (keys_and_noise_alone k s n))

same_keys_and_noise : (s t : ChipState) → t.hidden.kon_pending ≡ s.hidden.kon_pending → t.hidden.kon_latched ≡ s.hidden.kon_latched → t.hidden.noise ≡ s.hidden.noise → with_keys_and_noise_of s t ≡ s
same_keys_and_noise s t kon_pending kon_latched noise = rw (kon_pending, kon_latched, noise) refl

-- samples that change neither the keys nor the noise leave all as it is
pub all_idle : (k : ℕ) (s : ChipState) (n : ℕ) → IsUnkeyed (keys_after k s 0) → IsStill (noise_rate (slice_index s.registers FLG)) k 0 n → (j : ℕ) → j ≤ n → keys_after k s j ≡ s
unfolding keys_after
all_idle k s n none still j upto =
    let end = unkeyed_later k s 0 j (omega arith) none in
    let noise : (keys_after k s j).hidden.noise ≡ s.hidden.noise = noise-keys_after k s j ∙ noise_before (noise_rate (slice_index s.registers FLG)) k s.hidden.noise n j still upto in
    sym (keys_and_noise_alone k s j) ∙ same_keys_and_noise s (keys_after k s j) (end.kon_pending ∙ sym none.kon_pending) (end.kon_latched ∙ sym none.kon_latched) noise
