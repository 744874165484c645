use Rattle.std.proofs.Common.{rules, ◌≡◌, ◌+◌, ℤ, pos, ◌+ℤ◌, ◌*ℤ◌, to_z, of_z, refl, sym, ap, ◌∙◌, arith}
use Rattle.std.specs.Int.{w16}
use Rattle.std.proofs.lemmas.Int.{ints}
use Rattle.num_fix.specs.Arithmetic.{scaled, wrap16}
use Rattle.num_fix.specs.SignedWords.{number_at}
use Rattle.echo_unit.proofs.Products.{wrap16-sum_left}
use Rattle.echo_unit.proofs.parts.add_row.Goals as goal

-- sums after both parts of a number
both : (sum part whole : ℤ) (old middle new : ℤ) → old ≡ wrap16 sum → middle ≡ wrap16 (old +ℤ part) → new ≡ wrap16 (middle +ℤ whole) → new ≡ wrap16 (sum +ℤ (part +ℤ whole))
both sum part whole old middle new before first second =
    let one : middle ≡ wrap16 (sum +ℤ part) = first ∙ ap (λ (z : ℤ). wrap16 (z +ℤ part)) before ∙ wrap16-sum_left sum part in
    let joined : sum +ℤ part +ℤ whole ≡ sum +ℤ (part +ℤ whole) = omega (arith, ints) in
    second ∙ ap (λ (z : ℤ). wrap16 (z +ℤ whole)) one ∙ wrap16-sum_left (sum +ℤ part) whole ∙ ap wrap16 joined

pub returns-then-by-ne0 : goal.returns-then-by-ne0
returns-then-by-ne0 c j sum below before =
    let part : to_z w16 (of_z w16 c.args.by.part) ≡ c.args.by.part = search rules in
    let whole : to_z w16 (of_z w16 c.args.by.whole) ≡ c.args.by.whole = search rules in
    both sum (scaled (number_at c.args.row.now (c.args.place + j)) c.args.by.part 16) (number_at c.args.row.now (c.args.place + j) *ℤ c.args.by.whole)
    (number_at c.args.sums.now j) (number_at c.add_part.new.sums j) (number_at c.add_whole.new.sums j) before (rw part at (c.add_part.ensures j below)) (rw whole at (c.add_whole.ensures j below))

pub returns-else-by-ne0 : goal.returns-else-by-ne0
returns-else-by-ne0 c j sum below before =
    let part : to_z w16 (of_z w16 c.args.by.part) ≡ c.args.by.part = search rules in
    let whole : to_z w16 (of_z w16 c.args.by.whole) ≡ c.args.by.whole = search rules in
    let sample : ℤ = number_at c.args.row.now (c.args.place + j) in
    let none : c.args.by.whole ≡ pos 0 = sym whole ∙ ap (to_z w16) c.if-by-ne0.false in
    let nothing : sample *ℤ pos 0 ≡ pos 0 = omega (arith, ints) in
    let alone : (z : ℤ) → z ≡ z +ℤ pos 0 = λ z. omega (arith, ints) in
    (rw part at (c.add_part.ensures j below)) ∙ ap (λ (z : ℤ). wrap16 (z +ℤ scaled sample c.args.by.part 16)) before
    ∙ wrap16-sum_left sum (scaled sample c.args.by.part 16) ∙ rw (none, nothing, ← alone (scaled sample c.args.by.part 16)) refl
