use Rattle.std.proofs.Common.{rules, ◌≡◌, ℕ, ◌<◌, false, get_or, arith}
use Rattle.std.proofs.lemmas.List.FromFn.{fill_by_all}
use Rattle.std.proofs.lemmas.List.Edits.{fill_by_more}
use Rattle.spc_form.specs.Layout.{dsp_of}
use Rattle.sample_rip.specs.Entries.{is_wanted}
use Rattle.sample_rip.proofs.entries.wanted.Goals as goal

pub returns : goal.returns
returns c =
    let known : (k : ℕ) → k < 256 → get_or c.loop-entry.entries k false ≡ is_wanted (dsp_of c.args.file.now) c.args.range k = λ k below. c.loop-entry.invariant.1 k (omega arith) in
    fill_by_all (is_wanted (dsp_of c.args.file.now) c.args.range) c.loop-entry.entries 256 false c.loop-entry.invariant.0 known

pub loop-entry-preserved : goal.loop-entry-preserved
loop-entry-preserved c =
    let kept = c.loop-entry.invariant in
    let known : c.is_wanted.result ≡ is_wanted (dsp_of c.args.file.now) c.args.range c.loop-entry.entry = (rw c.dsp.ensures.dsp at c.is_wanted.ensures) in (
      search rules,
      rw (c.from.ensures, known) (fill_by_more (is_wanted (dsp_of c.args.file.now) c.args.range) c.loop-entry.entries c.loop-entry.entry false (omega (arith, kept.0, c.loop-entry-test.true)) kept.1),
    )
