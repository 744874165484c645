-- The voices that a sample keys are those whose key-ons its poll latched.
use Rattle.std.proofs.Common.{◌≡◌, ℕ, ◌+◌, ◌*◌, ◌/◌, ◌%◌, ◌^◌, ◌<◌, ◌==◌, ◌&&◌, List, [], ◌∷◌, ℤ, pos, Bool, true, false, length, map, if◌then◌else◌, refl, add-one, arith}
use Rattle.std.proofs.lemmas.Bool.Decides.{nat_tests}
use Rattle.std.proofs.lemmas.Nat.{mod-pow-add, shr-shr, pow-add}
use Rattle.num_fix.specs.Arithmetic.{has_bit}
use Rattle.voice_unit.specs.Voice.{VoiceState, voice_answer}
use Rattle.dsp_state.specs.Results.{bits_from}
use Rattle.dsp_state.specs.Sample.{SharedInput, voice_in, voice_result, results_from}

-- the key-ons of n voices from v on, where the keys are polled
abbrev key_ons : (poll : Bool) → (kon_latched v n : ℕ) → ℕ
key_ons poll kon_latched v n = if poll then (kon_latched / 2 ^ v % 2 ^ n) * 2 ^ v else 0

-- a bit at its place
bit_value : (b v : ℕ) → b < 2 → (if b == 1 then 2 ^ v else 0) ≡ b * 2 ^ v
bit_value b v below = by (b == 1) refl
  where
    by : (test : Bool) → (b == 1) ≡ test → (if test then 2 ^ v else 0) ≡ b * 2 ^ v
    by true e = let one : b ≡ 1 = grind (arith, nat_tests, e) in rw one (omega arith)
    by false e = let none : b ≡ 0 = grind (arith, nat_tests, e, below) in rw none (omega arith)

-- a bit and a number after it, both times p
products : (b r p : ℕ) → b * p + r * (p * 2) ≡ (r * 2 + b) * p
products b r p = omega arith

-- the key-ons of one voice more
one_more : (poll : Bool) (kon_latched v n : ℕ) → (if poll && has_bit kon_latched v then 2 ^ v else 0) + key_ons poll kon_latched (v + 1) n ≡ key_ons poll kon_latched v (n + 1)
one_more false kon_latched v n = refl
one_more true kon_latched v n =
    let q : ℕ = kon_latched / 2 ^ v in
    let bit = bit_value (q % 2) v (omega arith) in
    let halved = shr-shr kon_latched v 1 in
    let split = mod-pow-add q n 1 in
    let doubled = pow-add 2 v 1 in
    rw (bit, ← halved, doubled, split) (products (q % 2) (q / 2 % 2 ^ n) (2 ^ v))

-- the voices from v on that are keyed
keyed_from : (shared : SharedInput) (v : ℕ) (previous : ℤ) (voices : List VoiceState)
    → bits_from (λ answer. answer.keyed) v (map (λ one. one.answer) (results_from shared v previous voices)) ≡ key_ons shared.common.is_poll shared.common.kon_latched v (length voices)
unfolding voice_result voice_in voice_answer
keyed_from shared v previous [] = by shared.common.is_poll
  where
    by : (poll : Bool) → 0 ≡ key_ons poll shared.common.kon_latched v 0
    by true = let none : shared.common.kon_latched / 2 ^ v % 1 ≡ 0 = omega arith in rw none (omega arith)
    by false = refl
keyed_from shared v previous (voice ∷ voices) =
    rw (keyed_from shared (v + 1) (voice_result shared v previous voice).answer.out voices) (rw (add-one (length voices)) at (one_more shared.common.is_poll shared.common.kon_latched v (length voices)))

-- all key-ons, where there are eight voices
pub keyed_bits : (shared : SharedInput) (voices : List VoiceState) (keyed : ℕ) → length voices ≡ 8 → keyed < 0x100 → keyed ≡ (if shared.common.is_poll then shared.common.kon_latched else 0)
    → keyed ≡ bits_from (λ answer. answer.keyed) 0 (map (λ one. one.answer) (results_from shared 0 (pos 0) voices))
keyed_bits shared voices keyed eight below is = rw (keyed_from shared 0 (pos 0) voices, eight) (by shared.common.is_poll is)
  where
    by : (poll : Bool) → keyed ≡ (if poll then shared.common.kon_latched else 0) → keyed ≡ key_ons poll shared.common.kon_latched 0 8
    by true same = omega (arith, same, below)
    by false same = same
