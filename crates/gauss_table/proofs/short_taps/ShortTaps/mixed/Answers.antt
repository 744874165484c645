use Rattle.std.proofs.Common.{rules, ◌≡◌, ◌+◌, ◌*◌, ◌<◌, ◌+ℤ◌, to_z, of_z, ap, refl, ◌∙◌}
use Rattle.std.specs.Int.{w16}
use Rattle.num_fix.specs.Arithmetic.{clamp16, clear_bit0, wrap16}
use Rattle.gauss_table.specs.Interpolation.{mix_of}
use Rattle.gauss_table.specs.ShortTaps.{bits_of_tap, short_tap}
use Rattle.gauss_table.specs.declared.short_taps.ShortTaps.{ShortTaps}
use Rattle.gauss_table.proofs.Pairs.{high-of_pair, low-of_pairs, sum-of_bits}
use Rattle.gauss_table.proofs.short_taps.ShortTaps.mixed.Goals as goal

pub returns : goal.returns
unfolding mix_of
returns c =
    let taps : ShortTaps = c.args.self.now in
    let b0 : bits_of_tap taps 0 < 65536 = c.pair-first.ensures.low in
    let b1 : bits_of_tap taps 1 < 65536 = c.pair-first.ensures.high in
    let b2 : bits_of_tap taps 2 < 65536 = c.pair-second.ensures.low in
    let b3 : bits_of_tap taps 3 < 65536 = c.pair-second.ensures.high in
    let first : c.pair-first.result ≡ bits_of_tap taps 0 + 65536 * bits_of_tap taps 1 = c.pair-first.ensures.value in
    let second : c.pair-second.result ≡ bits_of_tap taps 2 + 65536 * bits_of_tap taps 3 = c.pair-second.ensures.value in
    let low : c.low_half.result ≡ wrap16 (short_tap taps 0 +ℤ short_tap taps 1 +ℤ short_tap taps 2) =
    c.low_half.ensures ∙ rw (first, second) (ap (to_z w16) (low-of_pairs (bits_of_tap taps 0) (bits_of_tap taps 1) (bits_of_tap taps 2) (bits_of_tap taps 3) b0 b1 b2 b3) ∙ sum-of_bits (bits_of_tap taps 0) (bits_of_tap taps 1) (bits_of_tap taps 2) b0 b1 b2) in
    let high : c.high_half.result ≡ short_tap taps 3 = c.high_half.ensures ∙ rw second (ap (to_z w16) (high-of_pair (bits_of_tap taps 2) (bits_of_tap taps 3) b2)) in
    let clamped : c.add_clamped.result ≡ clamp16 (c.low_half.result +ℤ c.high_half.result) = search rules in
    let cleared : to_z w16 (of_z w16 c.clear_bit0.result) ≡ clear_bit0 c.add_clamped.result = search rules in
    rw (cleared, clamped, low, high) refl
