use Rattle.std.proofs.Common.{rules, ◌≡◌, ◌≤◌, ◌+◌, ℕ, List, ℤ, ◌+ℤ◌, pos, length, replicate, ap, ◌∙◌, arith}
use Rattle.std.proofs.lemmas.Int.{ints}
use Rattle.std.proofs.lemmas.List.{get_or-replicate}
use Rattle.num_fix.specs.Arithmetic.{wrap16}
use Rattle.num_fix.specs.SignedWords.{number_at}
use Rattle.echo_unit.specs.Fir.{taps, eight_from}
use Rattle.echo_unit.proofs.Taps.{is_tap}
use Rattle.echo_unit.proofs.rows.row_of_last_tap.Goals as goal

pub returns : goal.returns
unfolding wrap16
returns c j below =
    let row : List ℤ = c.args.row.now in
    let coefficients : List ℕ = c.args.coefficients.now in
    let seventy_two : length row ≡ 72 = search rules in
    let long : j + 1 + 8 ≤ length row = omega (arith, below, seventy_two) in
    let eight : length coefficients ≡ 8 = search rules in
    let place : 8 + j ≡ j + 1 + 7 = omega arith in
    let tap = is_tap row coefficients (j + 1) 7 long eight (omega arith) in
    let zero : number_at (replicate 64 (pos 0)) j ≡ wrap16 (pos 0) = get_or-replicate 64 j (pos 0) (pos 0) below in
    let alone : pos 0 +ℤ number_at (taps (eight_from row (j + 1)) coefficients) 7 ≡ number_at (taps (eight_from row (j + 1)) coefficients) 7 = omega (arith, ints) in
    c.add_tap.ensures j (pos 0) below zero ∙ ap wrap16 (rw (place, tap) alone)
