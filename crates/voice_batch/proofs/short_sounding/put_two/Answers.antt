use Rattle.std.proofs.Common.{◌≢◌, ◌+◌, ◌∙◌, arith}
use Rattle.voice_batch.proofs.short_sounding.put_two.Goals as goal

pub returns-clause-first : goal.returns-clause-first
returns-clause-first c table place are phase =
    let apart : c.args.j ≢ c.args.j + 1 = omega arith in
    c.put_products-2.ensures.others c.args.j apart ∙ c.put_products.ensures.here ∙ c.products_at-first.ensures table place are phase

pub returns-clause-second : goal.returns-clause-second
returns-clause-second c table place are phase = c.put_products-2.ensures.here ∙ c.products_at-second.ensures table place are phase

pub returns-clause-before : goal.returns-clause-before
returns-clause-before c i before =
    let first : i ≢ c.args.j = omega arith in
    let second : i ≢ c.args.j + 1 = omega arith in
    c.put_products-2.ensures.others i second ∙ c.put_products.ensures.others i first
