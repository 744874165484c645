use Rattle.std.proofs.Common.{◌≡◌, ◌<◌, ◌^◌, sym, arith, true, false, nat_eq, bit_and}
use Rattle.std.proofs.Common.{inl, inr}
use Rattle.std.proofs.lemmas.Bool.{cases_eq}
use Rattle.std.proofs.lemmas.Bool.Decides.{nat_tests}
use Rattle.std.proofs.lemmas.Nat.{and_le_l}
use Rattle.aram_core.proofs.MarkedPages.{common_low, common_high, nothing_common}
use Rattle.aram_core.proofs.page_set.PageSet.meets.Goals as goal

pub returns-then-self-other-ne0 : goal.returns-then-self-other-ne0
returns-then-self-other-ne0 c =
    let some : 0 < bit_and c.self.inside.low c.other.inside.low = omega (arith, c.if-self-other-ne0.true) in
    let fits : bit_and c.self.inside.low c.other.inside.low < 2 ^ 128 = omega (arith, and_le_l c.self.inside.low c.other.inside.low, c.self.invariant.0) in
    let no : nat_eq (bit_and c.self.inside.low c.other.inside.low) 0 ≡ false = grind (arith, nat_tests, some) in
    rw (no, ← c.self.view_is, ← c.other.view_is) (sym (common_low c.self.inside.low c.self.inside.high c.other.inside.low c.other.inside.high fits some))

pub returns-else-self-other-ne0 : goal.returns-else-self-other-ne0
returns-else-self-other-ne0 c = elim (cases_eq (bit_and c.self.inside.high c.other.inside.high) 0) [
  | inl none ↦
      let yes : nat_eq (bit_and c.self.inside.high c.other.inside.high) 0 ≡ true = grind (arith, nat_tests, none) in
      rw (yes, ← c.self.view_is, ← c.other.view_is) (sym (nothing_common c.self.inside.low c.self.inside.high c.other.inside.low c.other.inside.high c.if-self-other-ne0.false none))
  | inr some ↦
      let more : 0 < bit_and c.self.inside.high c.other.inside.high = omega (arith, some) in
      let fits : bit_and c.self.inside.high c.other.inside.high < 2 ^ 128 = omega (arith, and_le_l c.self.inside.high c.other.inside.high, c.self.invariant.1) in
      let no : nat_eq (bit_and c.self.inside.high c.other.inside.high) 0 ≡ false = grind (arith, nat_tests, more) in
      rw (no, ← c.self.view_is, ← c.other.view_is) (sym (common_high c.self.inside.low c.self.inside.high c.other.inside.low c.other.inside.high fits more))
]
