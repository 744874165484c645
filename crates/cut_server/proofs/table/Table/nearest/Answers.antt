use Rattle.std.proofs.Common.{◌<◌, ◌∙◌, sym, ap, arith, length, []}
use Rattle.std.proofs.lemmas.List.{take_all}
use Rattle.cut_form.specs.Checkpoints.{greatest_up_to}
use Rattle.cut_server.specs.Table.{samples_of}
use Rattle.cut_server.proofs.Places.{nearest_begun, nearest_taken, nearest_kept, nearest_passed, samples_after}
use Rattle.cut_server.proofs.table.Table.nearest.Goals as goal
use Rattle.cut_server.proofs.table.Table.nearest.Goals.{then-sample-at+then-sample, else-sample-at, else-sample-at-via-then-sample-at+else-sample, else-sample-at-via-else-sample-at}

pub loop-index-init : goal.loop-index-init
loop-index-init g c = nearest_begun c.args.self.now.pool c.args.self.now.checkpoints c.args.at c.requires

pub loop-index-preserved : goal.loop-index-preserved
loop-index-preserved g c =
    let samples = samples_of c.args.self.now in
    let within : c.loop-index.index < length samples = omega arith in
    let here = c.sample-sample.ensures in
    elim c.if-sample-at.branch [
      | then-sample-at+then-sample w ↦
          rw w.nearest-is (within, nearest_taken samples c.loop-index.index c.loop-index.nearest c.args.at within c.loop-index.invariant.1 (omega (arith, here, w.if-sample-at.true)) (omega (arith, here, w.sample.ensures, w.if-sample.true)))
      | else-sample-at w ↦ rw w.nearest-is (
        c.loop-index.invariant.0,
        elim w.else-sample-at.branch [
          | else-sample-at-via-then-sample-at+else-sample v ↦ nearest_kept samples c.loop-index.index c.loop-index.nearest c.args.at within c.loop-index.invariant.1 (omega (arith, here, v.sample.ensures, v.if-sample.false))
          | else-sample-at-via-else-sample-at v ↦ nearest_passed samples c.loop-index.index c.loop-index.nearest c.args.at within c.loop-index.invariant.1 (omega (arith, here, v.if-sample-at.false))
        ],
      )
    ]

pub returns-clause-sample : goal.returns-clause-sample
returns-clause-sample g c =
    let samples = samples_of c.args.self.now in
    c.loop-index.invariant.1 ∙ ap (λ l. greatest_up_to l c.args.at) (take_all c.loop-index.index samples (omega arith)) ∙ ap (λ l. greatest_up_to l c.args.at) (sym (samples_after c.args.self.now.pool [] c.args.self.now.checkpoints))
