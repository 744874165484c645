use Rattle.std.proofs.Common.{rules, ◌≡◌, ◌+◌, ℤ, ◌+ℤ◌, ◌*ℤ◌, pos, to_z, of_z, refl, sym, ap, ◌∙◌, arith}
use Rattle.std.specs.Int.{w16}
use Rattle.std.proofs.lemmas.Int.{ints}
use Rattle.num_fix.specs.Arithmetic.{scaled, sign8}
use Rattle.num_fix.specs.SignedWords.{number_at}
use Rattle.num_fix.proofs.Quotients.{shift_is}
use Rattle.echo_unit.proofs.rows.add_tap.Goals as goal

-- a tap of 0 gives nothing
no_tap : (sample : ℤ) → scaled sample (pos 0) 6 ≡ pos 0
unfolding scaled
no_tap sample = shift_is 6 (sample *ℤ pos 0) (pos 0) 0 (omega arith) (omega (arith, ints))

pub returns-else-by-ne0 : goal.returns-else-by-ne0
returns-else-by-ne0 c j sum below before =
    let read : to_z w16 (of_z w16 c.signed-by.result) ≡ c.signed-by.result = search rules in
    let none : sign8 c.args.coefficient ≡ pos 0 = sym c.signed-by.ensures.value ∙ sym read ∙ ap (to_z w16) c.if-by-ne0.false in
    let alone : sum +ℤ pos 0 ≡ sum = omega (arith, ints) in
    before ∙ rw (none, no_tap (number_at c.args.row.now (c.args.place + j)), alone) refl
