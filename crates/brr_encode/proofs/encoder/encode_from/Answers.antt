use Rattle.std.proofs.Common.{rules, ◌≡◌, ◌/◌, ◌%◌, ◌==◌, ◌++◌, ℕ, length, length-append, refl, sym, ap, ◌∙◌, arith}
use Rattle.std.proofs.lemmas.List.{append-nil}
use Rattle.std.proofs.lemmas.Bool.Decides.{nat_tests}
use Rattle.std.proofs.lemmas.List.Elements.{All-nil}
use Rattle.brr_encode.specs.Report.{IsWithin}
use Rattle.brr_encode.specs.Encoding.{encoded_from, padded_samples, encoding_from, blocks_of}
use Rattle.brr_encode.specs.EncoderParts.{block_reports, all_reports}
use Rattle.brr_encode.proofs.Streams.{blocks_next, reports_next, reports_are_true}
use Rattle.brr_encode.proofs.encoder.encode_from.Goals as goal

-- as many blocks as samples over sixteen
no_block_left : (n : ℕ) → n % 16 ≡ 0 → (n == 0) ≡ (n / 16 == 0)
no_block_left n whole = grind (arith, nat_tests, whole)

pub each-init : goal.each-init
unfolding encoding_from
each-init c =
    let targets : c.as_slice-rest.result.now ≡ padded_samples c.args.samples.now = search rules in
    record {
      bytes = rw (targets, c.start-coder.ensures, c.in_ok-bytes.ensures.items) refl;
      reports = rw (targets, c.start-coder.ensures, c.in_ok-reports.ensures.items) refl;
      whole = rw targets (rw c.in_ok-targets.ensures.targets at c.in_ok-targets.ensures.whole);
      few = let few = rw c.in_ok-targets.ensures.targets at c.in_ok-targets.ensures.few in rw (targets, c.in_ok-reports.ensures.items) (omega (arith, few));
      index = let few = rw c.in_ok-targets.ensures.targets at c.in_ok-targets.ensures.few in rw targets (omega (arith, few));
      within = rw c.in_ok-reports.ensures.items (All-nil IsWithin);
    }

pub each-preserved : goal.each-preserved
each-preserved c =
    let cases = c.in-Some.ensures.cases in
    let last : c.is_empty-in-Some.result ≡ (length c.in-Some.tail.now / 16 == 0) = c.is_empty-in-Some.ensures ∙ no_block_left (length c.in-Some.tail.now) (omega (arith, cases.2, c.each.invariant.whole)) in
    record {
      bytes = rw c.in_ok-coder.ensures.bytes (blocks_next _ _ _ _ _ _ _ _ c.each.rest.now c.in-Some.block.now c.in-Some.tail.now _ _ cases.0 cases.1 cases.2 c.stands_alone.ensures last c.in_ok-coder.ensures.coder c.each.invariant.bytes);
      reports = rw c.in_ok-coder.ensures.reports (reports_next _ _ _ _ _ _ _ _ c.each.rest.now c.in-Some.block.now c.in-Some.tail.now _ _ cases.0 cases.1 cases.2 c.stands_alone.ensures last c.in_ok-coder.ensures.coder c.each.invariant.reports);
      whole = omega (arith, cases.2, c.each.invariant.whole);
      few = rw c.in_ok-coder.ensures.reports (rw (length-append c.each.reports.items _) (omega (arith, cases.2, c.each.invariant.few)));
      index = omega (arith, cases.2, c.each.invariant.index);
      within = c.in_ok-coder.ensures.within c.each.invariant.within;
    }

pub returns-clause-reports : goal.returns-clause-reports
returns-clause-reports c =
    let none : length c.each.rest.now / 16 ≡ 0 = let left = c.in_default.ensures.cases in omega (arith, left) in
    let bytes : c.each.bytes.items ≡ encoding_from c.args.loop_block c.args.samples.now c.args.looped =
    sym (append-nil c.each.bytes.items) ∙ ap (λ (n : ℕ). c.each.bytes.items ++ blocks_of n c.each.index c.args.loop_block c.args.looped c.each.coder.last c.each.coder.before c.each.rest.now) (sym none) ∙ c.each.invariant.bytes in
    let reports : c.each.reports.items ≡ all_reports c.args.loop_block c.args.samples.now c.args.looped =
    sym (append-nil c.each.reports.items) ∙ ap (λ (n : ℕ). c.each.reports.items ++ block_reports n c.each.index c.args.loop_block c.args.looped c.each.coder.last c.each.coder.before c.each.rest.now) (sym none) ∙ c.each.invariant.reports in
    let whole = rw c.in_ok-targets.ensures.targets at c.in_ok-targets.ensures.whole in
    rw (reports, bytes) (reports_are_true c.args.loop_block c.args.samples.now c.args.looped whole)
