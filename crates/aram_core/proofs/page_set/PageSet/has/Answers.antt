use Rattle.std.proofs.Common.{◌≡◌, ◌/◌, ◌%◌, ◌^◌, ◌∙◌, sym, ap, arith, true, false, nat_lt, bit_and}
use Rattle.std.proofs.Common.{refl, if◌then◌else◌}
use Rattle.std.proofs.lemmas.Bool.Decides.{nat_tests}
use Rattle.std.proofs.lemmas.Nat.{and_mask}
use Rattle.std.specs.FinSet as set
use Rattle.aram_core.proofs.page_set.PageSet.has.Goals.{then-page-lt128, else-page-lt128}
use Rattle.aram_core.specs.PageBits.{contains-marked_pages}
use Rattle.aram_core.proofs.page_set.PageSet.has.Goals as goal

pub returns : goal.returns
returns c =
    let page : nat_lt c.args.page 256 ≡ true = grind (arith, nat_tests, c.ranges.page) in
    let word : c.if-page-lt128.word ≡ (if nat_lt c.args.page 128 then c.self.inside.low else c.self.inside.high) = elim c.if-page-lt128.branch [
      | then-page-lt128 w ↦ let low : nat_lt c.args.page 128 ≡ true = grind (arith, nat_tests, w.if-page-lt128) in rw low w.word-is
      | else-page-lt128 w ↦ let high : nat_lt c.args.page 128 ≡ false = grind (arith, nat_tests, w.if-page-lt128) in rw high w.word-is
    ] in
    let found = ap (λ s. set.contains s c.args.page) (sym c.self.view_is) ∙ contains-marked_pages c.self.inside.low c.self.inside.high c.args.page in
    let lowest : bit_and (c.if-page-lt128.word / 2 ^ (c.args.page % 128)) 1 ≡ c.if-page-lt128.word / 2 ^ (c.args.page % 128) % 2 = and_mask (c.if-page-lt128.word / 2 ^ (c.args.page % 128)) 1 in
    rw (lowest, word, found, page) refl
