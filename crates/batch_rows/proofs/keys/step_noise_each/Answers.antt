use Rattle.std.proofs.Common.{rules, ◌≡◌, ◌+◌, ◌-◌, false, ◌<◌, ◌≤◌, ℕ, suc, get_or, replicate, length, List, take, drop, ap, sym, ◌∙◌, inl, inr, arith}
use Rattle.std.proofs.lemmas.Bool.{cases_lt}
use Rattle.std.proofs.lemmas.List.{get_or-replicate, places}
use borrow.Rule.Slice.PartMut.{put_mid}
use Rattle.rate_clock.specs.Counter.{counter_at, fires}
use Rattle.rate_clock.specs.Noise.{next_noise}
use Rattle.batch_rows.specs.KeysAndNoise.{noise_after}
use Rattle.batch_rows.proofs.KeysApart.{noise_before, noise_between}
use Rattle.batch_rows.proofs.keys.step_noise_each.Goals as goal

-- a row with a number put from one place on up to another
abbrev with_filled : (row : List ℕ) → (from to noise : ℕ) → List ℕ
with_filled row from to noise = put_mid from (to - from) row (replicate (to - from) noise)

module _ (row : List ℕ) (from to noise : ℕ) (order : from ≤ to) (long : to ≤ length row) where
  before : (j : ℕ) → j < from → get_or (with_filled row from to noise) j 0 ≡ get_or row j 0
  before j early = search (rules, places)

  there : (j : ℕ) → from ≤ j → j < to → get_or (with_filled row from to noise) j 0 ≡ noise
  there j late below = search (rules, places)

  after : (j : ℕ) → to ≤ j → get_or (with_filled row from to noise) j 0 ≡ get_or row j 0
  after j late = search (rules, places)

  length-filled : length (with_filled row from to noise) ≡ length row
  length-filled = search (rules, places)

pub firings-init : goal.firings-init
firings-init c =
    let at : ℕ = c.first_firing-at.result in
    let noise : ℕ = c.args.noise.now in
    let stays : (k j : ℕ) → c.args.first.now ≡ counter_at k → j ≤ at → noise ≡ noise_after c.args.rate k noise j =
    λ k j is upto. sym (noise_before c.args.rate k noise at j (λ i early late. c.first_firing-at.ensures.quiet k i is late) upto) in
    let entry : (j : ℕ) → j < 64 → get_or (replicate 64 c.value-row.result) j 0 ≡ noise = λ j below. get_or-replicate 64 j c.value-row.result 0 below ∙ c.value-row.ensures.value in
    record {
      within = c.first_firing-at.ensures.within;
      some = c.first_firing-at.ensures.some;
      fires = c.first_firing-at.ensures.fires;
      noise = λ k is. stays k at is (omega arith);
      row = λ k j is below. entry j (omega (arith, below, c.requires.few, c.first_firing-at.ensures.within)) ∙ stays k (suc j) is (omega (arith, below));
      bound = λ j below. rw (get_or-replicate 64 j c.value-row.result 0 (omega (arith, below, c.requires.few))) c.value-row.ensures.bound;
      long = search rules;
    }

pub firings-preserved : goal.firings-preserved
firings-preserved c =
    let at : ℕ = c.firings.at in
    let next : ℕ = c.next_firing-next.result in
    let first : ℕ = c.args.noise.now in
    let quiet : (k i : ℕ) → c.args.first.now ≡ counter_at k → at < i → i < next → fires c.args.rate (counter_at (k + i)) ≡ false =
    λ k i is after below.
    let place : k + at + 1 + (i - (at + 1)) ≡ k + i = omega (arith, after) in
    rw place at (c.samples_between_firings-between.ensures.quiet (k + at) (c.firings.invariant.fires k is c.firings-test.true) (i - (at + 1)) (omega (arith, after, below, c.next_firing-next.ensures.near))) in
    let goes_on : (k j : ℕ) → c.args.first.now ≡ counter_at k → at < j → j ≤ next → c.step.new.self ≡ noise_after c.args.rate k first j =
    λ k j is after upto. c.step.ensures.next ∙ ap next_noise (c.firings.invariant.noise k is)
    ∙ sym (noise_between c.args.rate k first at next j (c.firings.invariant.fires k is c.firings-test.true) (λ i early late. quiet k i is (omega (arith, early)) late) after upto) in
    let order : at ≤ next = omega (arith, c.next_firing-next.ensures.after) in
    let long : next ≤ length c.firings.row = rw c.firings.invariant.long (omega (arith, c.requires.few, c.next_firing-next.ensures.within)) in
    let part : length (take (next - at) (drop at c.firings.row)) ≡ next - at = search (rules, places) in
    let filled : c.fill.new.self ≡ replicate (next - at) c.value.result = rw part at (rw (c.from.ensures, c.from-in-firings.ensures) at (c.fill.ensures.after (λ y same. search rules))) in
    rw (c.from.ensures, c.from-in-firings.ensures, filled) (record {
      within = c.next_firing-next.ensures.within;
      some = λ below. c.firings.invariant.some c.firings-test.true;
      fires = λ k is below.
          let place : k + at + c.samples_between_firings-between.result ≡ k + next = omega (arith, c.next_firing-next.ensures.fires below) in
          rw place at (c.samples_between_firings-between.ensures.then_fires (k + at) (c.firings.invariant.fires k is c.firings-test.true));
      noise = λ k is. goes_on k next is (omega (arith, c.next_firing-next.ensures.after)) (omega arith);
      row = λ k j is below. elim (cases_lt j at) [
        | inl early ↦ before c.firings.row at next c.value.result order long j early ∙ c.firings.invariant.row k j is early
        | inr late ↦ there c.firings.row at next c.value.result order long j late below ∙ c.value.ensures.value ∙ goes_on k (suc j) is (omega (arith, late)) (omega (arith, below))
      ];
      bound = λ j below. elim (cases_lt j at) [
        | inl early ↦ rw (before c.firings.row at next c.value.result order long j early) (c.firings.invariant.bound j below)
        | inr late ↦ elim (cases_lt j next) [
          | inl within ↦ rw (there c.firings.row at next c.value.result order long j late within) c.value.ensures.bound
          | inr beyond ↦ rw (after c.firings.row at next c.value.result order long j beyond) (c.firings.invariant.bound j below)
        ]
      ];
      long = length-filled c.firings.row at next c.value.result order long ∙ c.firings.invariant.long;
    })

pub returns-clause-noise : goal.returns-clause-noise
returns-clause-noise c k is =
    let all : c.firings.at ≡ c.args.n = omega (arith, c.firings.invariant.within) in
    rw all at (c.firings.invariant.noise k is)
