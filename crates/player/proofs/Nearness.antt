-- A seek runs from a sample at or behind each mark up to its goal.
use Rattle.std.proofs.Common.{◌≡◌, ◌∙◌, ap, sym, ℕ, ◌+◌, ◌-◌, ◌≤◌, min, true, ◌==◌, ◌||◌, nat_le, inl, inr, List, [], ◌∷◌, refl, map, ◌&&◌, false, arith}
use Rattle.std.proofs.lemmas.Bool.{cases_Bool}
use Rattle.std.proofs.lemmas.Bool.Decides.{nat_tests}
use Rattle.std.specs.List.{list_any}
use Rattle.cut_form.specs.Checkpoints.{Checkpoint, stands_at, nearest, greatest_up_to}
use Rattle.cut_form.specs.CutBook.{CutBook, runs_from}

pub nearest_behind : (live : List Checkpoint) (mark at : ℕ) → stands_at live mark ≡ true → mark ≤ at → mark ≤ nearest live at
nearest_behind [] mark at stands before = cc
nearest_behind (checkpoint ∷ rest) mark at stands before = elim (cases_Bool (checkpoint.sample == mark)) [
  | inl here ↦
      let same : checkpoint.sample ≡ mark = grind (arith, nat_tests, here) in
      let up_to : nat_le checkpoint.sample at ≡ true = grind (arith, nat_tests, same, before) in
      rw up_to (omega (arith, same))
  | inr other ↦
      let later : list_any (λ (c : Checkpoint). c.sample == mark) rest ≡ true = ap (λ b. b || list_any (λ (c : Checkpoint). c.sample == mark) rest) (sym other) ∙ stands in
      let behind : mark ≤ nearest rest at = nearest_behind rest mark at later before in
      elim (cases_Bool (nat_le checkpoint.sample at)) [
        | inl up_to ↦ rw up_to (omega (arith, behind))
        | inr past ↦ rw past behind
      ]
]

pub seek_near : (book : CutBook) (at mark : ℕ) → stands_at book.live mark ≡ true → mark ≤ at → at - runs_from book at ≤ at - mark
seek_near book at mark stands before =
    let behind : mark ≤ nearest book.live at = nearest_behind book.live mark at stands before in
    grind (arith, nat_tests, behind)

-- a seek to a sample between where one runs from and its goal runs from there too
greatest_between : (numbers : List ℕ) (at goal : ℕ) → greatest_up_to numbers at ≤ goal → goal ≤ at → greatest_up_to numbers goal ≡ greatest_up_to numbers at
greatest_between [] at goal behind before = refl
greatest_between (number ∷ rest) at goal behind before = elim (cases_Bool (nat_le number at)) [
  | inl up_to ↦
      let both = rw up_to at behind in
      let here : nat_le number goal ≡ true = grind (arith, nat_tests, both) in
      let same : greatest_up_to rest goal ≡ greatest_up_to rest at = greatest_between rest at goal (omega (arith, both)) before in
      rw (up_to, here, same) refl
  | inr past ↦
      let less = rw past at behind in
      let later : nat_le number goal ≡ false = grind (arith, nat_tests, past, before) in
      rw (past, later) (greatest_between rest at goal less before)
]

greatest-le : (numbers : List ℕ) (at : ℕ) → greatest_up_to numbers at ≤ at
greatest-le [] at = omega arith
greatest-le (number ∷ rest) at = elim (cases_Bool (nat_le number at)) [
  | inl up_to ↦ let few : number ≤ at = grind (arith, nat_tests, up_to) in rw up_to (omega (arith, few, greatest-le rest at))
  | inr past ↦ rw past (greatest-le rest at)
]

pub source-le : (book : CutBook) (at : ℕ) → runs_from book at ≤ at
source-le book at =
    let few : nearest book.live at ≤ at = greatest-le (map (λ (c : Checkpoint). c.sample) book.live) at in
    grind (arith, nat_tests, few)

pub same_source : (book : CutBook) (at goal : ℕ) → runs_from book at ≤ goal → goal ≤ at → runs_from book goal ≡ runs_from book at
same_source book at goal behind before = elim (cases_Bool (nat_le book.position at && nat_le (nearest book.live at) book.position)) [
  | inl stays ↦
      let from = rw stays at behind in
      let near : nearest book.live at ≤ goal = grind (arith, nat_tests, stays, from) in
      let same : nearest book.live goal ≡ nearest book.live at = greatest_between (map (λ (c : Checkpoint). c.sample) book.live) at goal near before in
      let test : nat_le book.position goal && nat_le (nearest book.live goal) book.position ≡ true = grind (arith, nat_tests, stays, from, same) in
      rw (stays, test) refl
  | inr loads ↦
      let near = rw loads at behind in
      let same : nearest book.live goal ≡ nearest book.live at = greatest_between (map (λ (c : Checkpoint). c.sample) book.live) at goal near before in
      let test : nat_le book.position goal && nat_le (nearest book.live goal) book.position ≡ false = grind (arith, nat_tests, loads, before, same) in
      rw (loads, test) same
]

-- once a seek has come that far, so many fewer are left
pub less_is_left : (book next : CutBook) (at most : ℕ) → next.live ≡ book.live → next.position ≡ min at (runs_from book at + most) → at - runs_from next at ≡ (at - runs_from book at) - most
less_is_left book next at most same there =
    let behind : nearest book.live at ≤ runs_from book at = grind (arith, nat_tests) in
    let few = source-le book at in
    let within : next.position ≤ at = omega (arith, there) in
    let later : nearest next.live at ≤ next.position = rw same (omega (arith, there, behind, few)) in
    let test : nat_le next.position at && nat_le (nearest next.live at) next.position ≡ true = grind (arith, nat_tests, within, later) in
    rw test (omega (arith, there, few))
