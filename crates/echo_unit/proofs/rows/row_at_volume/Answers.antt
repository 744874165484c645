use Rattle.std.proofs.Common.{rules, ◌≡◌, ◌+◌, ℤ, ◌+ℤ◌, pos, replicate, to_z, of_z, ap, ◌∙◌, arith}
use Rattle.std.specs.Int.{w16}
use Rattle.std.proofs.lemmas.Int.{ints}
use Rattle.std.proofs.lemmas.List.{get_or-replicate}
use Rattle.num_fix.specs.Arithmetic.{scaled, sign8, wrap16}
use Rattle.num_fix.specs.SignedWords.{number_at}
use Rattle.echo_unit.specs.Parts.{by_parts}
use Rattle.echo_unit.proofs.rows.row_at_volume.Goals as goal

pub returns : goal.returns
unfolding wrap16
returns c j below =
    let sample : ℤ = number_at c.args.row.now (0 + j) in
    let place : 0 + j ≡ j = omega arith in
    let read : to_z w16 (of_z w16 c.signed.result) ≡ c.signed.result = search rules in
    let product : by_parts sample c.over_128.result ≡ scaled sample (sign8 c.args.volume) 7 = rw (read, c.signed.ensures.value) at (c.over_128.ensures sample) in
    let zero : number_at (replicate 64 (pos 0)) j ≡ wrap16 (pos 0) = get_or-replicate 64 j (pos 0) (pos 0) below in
    let alone : pos 0 +ℤ scaled (number_at c.args.row.now j) (sign8 c.args.volume) 7 ≡ scaled (number_at c.args.row.now j) (sign8 c.args.volume) 7 = omega (arith, ints) in
    c.add_row.ensures j (pos 0) below zero ∙ ap wrap16 (ap (λ (z : ℤ). pos 0 +ℤ z) product ∙ rw place alone)
