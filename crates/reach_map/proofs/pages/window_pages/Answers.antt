use Rattle.std.proofs.Common.{◌≡◌, ◌+◌, ◌-◌, ◌/◌, ◌∙◌, ap, arith}
use Rattle.std.specs.FinSet as set
use Rattle.aram_core.specs.Pages.{page_of}
use Rattle.reach_map.specs.Reach.{window_pages}
use Rattle.reach_map.proofs.Added.{with_pages-empty}
use Rattle.reach_map.proofs.EveryPage.{last_step, pages_from-steps}
use Rattle.reach_map.proofs.pages.window_pages.Goals as goal

pub returns : goal.returns
returns c =
    let last : c.page_of-2.result ≡ page_of (c.args.window.start + (c.args.window.len - 1)) = omega (arith, c.page_of-2.ensures) in
    rw (c.add.ensures, last, c.pages_from-pages.ensures, c.page_of.ensures)
    (ap (λ s. set.insert s (page_of (c.args.window.start + (c.args.window.len - 1)))) (pages_from-steps c.args.window.start ((c.args.window.len - 1) / 256 + 1))
    ∙ last_step set.empty c.args.window.start c.args.window.len c.requires.some
    ∙ with_pages-empty (window_pages c.args.window))
