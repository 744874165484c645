use Rattle.std.proofs.Common.{◌≡◌, ◌<◌, ◌+◌, ◌/◌, ◌%◌, arith}
use Rattle.std.proofs.lemmas.Bool.Decides.{nat_tests}
use Rattle.reach_map.proofs.PageOfBytes.{has_page-bytes}
use Rattle.reach_map.proofs.pages.bytes_have_page.Goals as goal

pub returns : goal.returns
returns c =
    let small : c.args.start < 0x10000 = omega arith in
    let small' : c.args.page < 0x100 = omega arith in
    let way : c.from-2.result < 0x100 = omega arith in
    let there : (c.args.start / 256 + c.from-2.result) % 256 ≡ c.args.page = omega arith in
    has_page-bytes c.args.start c.args.count c.args.page c.from-2.result _ small small' way there c.requires.some c.requires.most
    (λ off. grind (arith, nat_tests, off)) (λ far. grind (arith, nat_tests, far))
