use Rattle.std.proofs.Common.{◌-◌, ℕ, ℤ, List, Ok, inl, inr, true, false, sym, ap, ◌∙◌}
use Rattle.std.proofs.lemmas.Result.{err_from_is_err_and}
use Rattle.brr_encode.specs.Encoding.{padded_samples}
use Rattle.brr_encode.specs.Report.{reports_of}
use Rattle.brr_search.specs.Found.{found_encoding, found_samples, sum_of_squares}
use Rattle.brr_search.proofs.Choice.{accepted, refused, if_refused, found_plain, found_at, reported}
use Rattle.brr_search.proofs.found.find_encoding.Goals as goal

pub returns-in_err-plain-clause-refused : goal.returns-in_err-plain-clause-refused
returns-in_err-plain-clause-refused c =
    let p = err_from_is_err_and c.from_residual.result c.from_residual.ensures.1 in
    rw (p.1, p.2) (if_refused _ c.args.candidates c.args.loop_block c.args.samples.now c.args.looped c.in_err-plain.ensures.refused)

pub returns-in_err-plain-clause-causes : goal.returns-in_err-plain-clause-causes
returns-in_err-plain-clause-causes c =
    let p = err_from_is_err_and c.from_residual.result c.from_residual.ensures.1 in
    rw (p.1, p.2) (elim c.in_err-plain.ensures.causes [
      | inl is ↦ inl (refused c.args.candidates c.args.loop_block c.args.samples.now c.args.looped _ is)
      | inr is ↦ inr is
    ])

pub returns-then-candidates-le1-clause-bytes : goal.returns-then-candidates-le1-clause-bytes
returns-then-candidates-le1-clause-bytes c =
    let all = accepted c.args.candidates c.args.loop_block c.args.samples.now c.args.looped _ c.in_ok-plain.ensures.bytes in
    all.1 ∙ ap (λ (b : List ℕ). Ok b) (found_plain c.args.candidates c.args.loop_block c.args.samples.now c.args.looped c.if-candidates-le1.true ∙ sym all.0)

pub returns-then-candidates-le1-clause-refused : goal.returns-then-candidates-le1-clause-refused
returns-then-candidates-le1-clause-refused c =
    let all = accepted c.args.candidates c.args.loop_block c.args.samples.now c.args.looped _ c.in_ok-plain.ensures.bytes in
    rw (all.1) tt

pub returns-in_err-targets-clause-refused : goal.returns-in_err-targets-clause-refused
returns-in_err-targets-clause-refused c =
    let all = accepted c.args.candidates c.args.loop_block c.args.samples.now c.args.looped _ c.in_ok-plain.ensures.bytes in
    rw (all.1) tt

pub returns-in_err-encoded-clause-refused : goal.returns-in_err-encoded-clause-refused
returns-in_err-encoded-clause-refused c =
    let all = accepted c.args.candidates c.args.loop_block c.args.samples.now c.args.looped _ c.in_ok-plain.ensures.bytes in
    rw (all.1) tt

pub returns-in-Some-clause-bytes : goal.returns-in-Some-clause-bytes
returns-in-Some-clause-bytes c =
    let all = accepted c.args.candidates c.args.loop_block c.args.samples.now c.args.looped _ c.in_ok-plain.ensures.bytes in
    let costs = c.sum_of_squares-cost.ensures ∙ ap sum_of_squares (c.deref.ensures.value ∙ c.in_ok-plain.ensures.reports ∙ ap (λ (b : List ℕ). reports_of b (padded_samples c.args.samples.now)) all.0) in
    let cheaper = rw c.in-Some.is at c.in_ok-encoded.ensures.cheaper in
    let bytes = rw c.in-Some.is at c.in_ok-encoded.ensures.bytes in
    let most = ap (λ (n : ℕ). n - 1) c.from-most.ensures in
    let targets = c.deref-2.ensures.value ∙ c.in_ok-targets.ensures.targets in
    let found = found_at c.args.candidates _ c.args.loop_block _ c.args.samples.now _ c.args.looped true c.if-candidates-le1.false most targets costs cheaper in
    all.1 ∙ ap (λ (b : List ℕ). Ok b) (found ∙ sym bytes)

pub returns-in-Some-clause-refused : goal.returns-in-Some-clause-refused
returns-in-Some-clause-refused c =
    let all = accepted c.args.candidates c.args.loop_block c.args.samples.now c.args.looped _ c.in_ok-plain.ensures.bytes in
    rw (all.1) tt

pub returns-in-None-clause-bytes : goal.returns-in-None-clause-bytes
returns-in-None-clause-bytes c =
    let all = accepted c.args.candidates c.args.loop_block c.args.samples.now c.args.looped _ c.in_ok-plain.ensures.bytes in
    let costs = c.sum_of_squares-cost.ensures ∙ ap sum_of_squares (c.deref.ensures.value ∙ c.in_ok-plain.ensures.reports ∙ ap (λ (b : List ℕ). reports_of b (padded_samples c.args.samples.now)) all.0) in
    let none = c.in_ok-encoded.ensures.none c.in-None.is in
    let most = ap (λ (n : ℕ). n - 1) c.from-most.ensures in
    let targets = c.deref-2.ensures.value ∙ c.in_ok-targets.ensures.targets in
    let found = found_at c.args.candidates _ c.args.loop_block _ c.args.samples.now _ c.args.looped false c.if-candidates-le1.false most targets costs none in
    all.1 ∙ ap (λ (b : List ℕ). Ok b) (found ∙ sym all.0)

pub returns-in-None-clause-refused : goal.returns-in-None-clause-refused
returns-in-None-clause-refused c =
    let all = accepted c.args.candidates c.args.loop_block c.args.samples.now c.args.looped _ c.in_ok-plain.ensures.bytes in
    rw (all.1) tt

pub returns-then-candidates-le1-clause-plain : goal.returns-then-candidates-le1-clause-plain
returns-then-candidates-le1-clause-plain c _ = (accepted c.args.candidates c.args.loop_block c.args.samples.now c.args.looped _ c.in_ok-plain.ensures.bytes).0

pub returns-then-candidates-le1-clause-never_dearer : goal.returns-then-candidates-le1-clause-never_dearer
returns-then-candidates-le1-clause-never_dearer c =
    let all = accepted c.args.candidates c.args.loop_block c.args.samples.now c.args.looped _ c.in_ok-plain.ensures.bytes in
    let found = found_plain c.args.candidates c.args.loop_block c.args.samples.now c.args.looped c.if-candidates-le1.true in
    reported c.args.candidates c.args.loop_block c.args.samples.now c.args.looped _ _ (found ∙ sym all.0) c.in_ok-plain.ensures.reports

pub returns-in-Some-clause-never_dearer : goal.returns-in-Some-clause-never_dearer
returns-in-Some-clause-never_dearer c =
    let all = accepted c.args.candidates c.args.loop_block c.args.samples.now c.args.looped _ c.in_ok-plain.ensures.bytes in
    let costs = c.sum_of_squares-cost.ensures ∙ ap sum_of_squares (c.deref.ensures.value ∙ c.in_ok-plain.ensures.reports ∙ ap (λ (b : List ℕ). reports_of b (padded_samples c.args.samples.now)) all.0) in
    let cheaper = rw c.in-Some.is at c.in_ok-encoded.ensures.cheaper in
    let bytes = rw c.in-Some.is at c.in_ok-encoded.ensures.bytes in
    let reports = rw c.in-Some.is at c.in_ok-encoded.ensures.reports in
    let most = ap (λ (n : ℕ). n - 1) c.from-most.ensures in
    let targets = c.deref-2.ensures.value ∙ c.in_ok-targets.ensures.targets in
    let found = found_at c.args.candidates _ c.args.loop_block _ c.args.samples.now _ c.args.looped true c.if-candidates-le1.false most targets costs cheaper in
    reported c.args.candidates c.args.loop_block c.args.samples.now c.args.looped _ _ (found ∙ sym bytes) (reports ∙ ap (λ (t : List ℤ). reports_of c.in-Some.encoded.bytes.items t) targets)

pub returns-in-None-clause-never_dearer : goal.returns-in-None-clause-never_dearer
returns-in-None-clause-never_dearer c =
    let all = accepted c.args.candidates c.args.loop_block c.args.samples.now c.args.looped _ c.in_ok-plain.ensures.bytes in
    let costs = c.sum_of_squares-cost.ensures ∙ ap sum_of_squares (c.deref.ensures.value ∙ c.in_ok-plain.ensures.reports ∙ ap (λ (b : List ℕ). reports_of b (padded_samples c.args.samples.now)) all.0) in
    let none = c.in_ok-encoded.ensures.none c.in-None.is in
    let most = ap (λ (n : ℕ). n - 1) c.from-most.ensures in
    let targets = c.deref-2.ensures.value ∙ c.in_ok-targets.ensures.targets in
    let found = found_at c.args.candidates _ c.args.loop_block _ c.args.samples.now _ c.args.looped false c.if-candidates-le1.false most targets costs none in
    reported c.args.candidates c.args.loop_block c.args.samples.now c.args.looped _ _ (found ∙ sym all.0) c.in_ok-plain.ensures.reports
