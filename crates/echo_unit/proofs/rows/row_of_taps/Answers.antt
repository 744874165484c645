use Rattle.std.proofs.Common.{rules, ◌≡◌, ◌<◌, ◌≤◌, ◌+◌, ℕ, List, ℤ, ◌+ℤ◌, pos, length, take, ap, sym, ◌∙◌, arith}
use Rattle.std.proofs.lemmas.List.{get_or-replicate}
use Rattle.std.proofs.lemmas.List.Sums.{fold_more}
use Rattle.num_fix.specs.Arithmetic.{wrap16}
use Rattle.echo_unit.specs.Fir.{signed_sum, taps, eight_from}
use Rattle.echo_unit.proofs.Taps.{length-taps, length-eight_from, is_tap}
use Rattle.echo_unit.proofs.rows.row_of_taps.Goals as goal

pub loop-i-init : goal.loop-i-init
unfolding wrap16
loop-i-init c j below = get_or-replicate 64 j (pos 0) (pos 0) below

pub loop-i-preserved : goal.loop-i-preserved
loop-i-preserved c j below =
    let i : ℕ = c.loop-i.i in
    let row : List ℤ = c.args.row.now in
    let coefficients : List ℕ = c.args.coefficients.now in
    let given : List ℤ = taps (eight_from row (j + 1)) coefficients in
    let seventy_two : length row ≡ 72 = search rules in
    let long : j + 1 + 8 ≤ length row = omega (arith, below, seventy_two) in
    let eight : length coefficients ≡ 8 = search rules in
    let samples : length (eight_from row (j + 1)) ≡ 8 = length-eight_from row (j + 1) long in
    let count : length given ≡ length (eight_from row (j + 1)) = length-taps (eight_from row (j + 1)) coefficients (samples ∙ sym eight) in
    let within : i < length given = omega (arith, count, samples) in
    let more = fold_more (λ (s : ℤ) (z : ℤ). s +ℤ z) (pos 0) given i (pos 0) within in
    let place : i + 1 + j ≡ j + 1 + i = omega arith in
    let tap = is_tap row coefficients (j + 1) i long eight (omega arith) in
    c.add_tap.ensures j (signed_sum (take i given)) below (c.loop-i.invariant j below) ∙ ap wrap16 (rw (place, tap) (sym more))

pub returns : goal.returns
returns c j below =
    let seven : c.loop-i.i ≡ 7 = omega arith in
    rw seven at (c.loop-i.invariant j below)
