use Rattle.std.proofs.Common.{◌≡◌, ◌-◌, ◌*◌, ◌/◌, ◌++◌, [], ℕ, length, drop, rules, sym, ap, ◌∙◌, arith}
use Rattle.std.proofs.lemmas.List.{append-nil}
use Rattle.std.proofs.lemmas.List.Elements.{All-append, All-cons, All-nil}
use Rattle.brr_decode.specs.Kept.{samples_of}
use Rattle.brr_encode.specs.Report.{IsWithin, reports_from, reports_of}
use Rattle.brr_search.proofs.Reports.{decoded_is, report_ranged, reports_next}
use Rattle.brr_search.proofs.errors.reports_of.Goals as goal

pub each-preserved : goal.each-preserved
each-preserved c =
    let same = c.deref.ensures.value ∙ decoded_is _ _ c.in-Ok.ensures.samples in
    let is = report_ranged c.each.index c.args.blocks.now (samples_of c.args.blocks.now) c.deref.result.now c.args.targets.now c.report_of.result same c.report_of.ensures.report in
    record {
      reports = rw c.in_ok-push.ensures.items (reports_next _ _ c.each.index c.args.blocks.now (samples_of c.args.blocks.now) c.args.targets.now _ _ c.each-test.true is c.each.invariant.reports);
      within = rw c.in_ok-push.ensures.items (All-append IsWithin c.each.reports.items _ c.each.invariant.within (All-cons IsWithin _ [] c.report_of.ensures.within (All-nil IsWithin)));
      count = search rules;
    }

pub returns-clause-reports : goal.returns-clause-reports
unfolding reports_of
returns-clause-reports c =
    let none : length c.args.blocks.now / 9 - c.each.index ≡ 0 = omega arith in
    sym (append-nil c.each.reports.items)
    ∙ ap (λ (n : ℕ). c.each.reports.items ++ reports_from n (drop (9 * c.each.index) c.args.blocks.now) (drop (16 * c.each.index) (samples_of c.args.blocks.now)) (drop (16 * c.each.index) c.args.targets.now)) (sym none)
    ∙ c.each.invariant.reports
