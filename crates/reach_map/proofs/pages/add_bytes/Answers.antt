use Rattle.std.proofs.Common.{◌≡◌, ◌+◌, ◌-◌, sym, ap, ◌∙◌, arith, rules}
use Rattle.std.specs.FinSet as set
use Rattle.aram_core.specs.Pages.{page_of}
use Rattle.reach_map.proofs.Added.{insert_again}
use Rattle.reach_map.proofs.EveryPage.{two_ends}
use Rattle.reach_map.proofs.pages.add_bytes.Goals as goal

pub returns-then-last-first : goal.returns-then-last-first
returns-then-last-first c =
    let last : c.page_of-last.result ≡ page_of (c.args.start + (c.args.count - 1)) = omega (arith, c.page_of-last.ensures) in
    rw (c.add-then-last-first.ensures, c.add.ensures, last, c.page_of-first.ensures) (two_ends c.args.pages.now c.args.start c.args.count c.requires.some c.requires.few)

pub returns-else-last-first : goal.returns-else-last-first
returns-else-last-first c =
    let last : c.page_of-last.result ≡ page_of (c.args.start + (c.args.count - 1)) = omega (arith, c.page_of-last.ensures) in
    let same : c.page_of-last.result ≡ c.page_of-first.result = search rules in
    let both : page_of (c.args.start + (c.args.count - 1)) ≡ page_of c.args.start = sym last ∙ same ∙ c.page_of-first.ensures in
    rw (c.add.ensures, c.page_of-first.ensures)
    (sym (insert_again c.args.pages.now (page_of c.args.start))
    ∙ ap (λ p. set.insert (set.insert c.args.pages.now (page_of c.args.start)) p) (sym both)
    ∙ two_ends c.args.pages.now c.args.start c.args.count c.requires.some c.requires.few)
