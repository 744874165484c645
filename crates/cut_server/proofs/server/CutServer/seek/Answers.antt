use Rattle.std.proofs.Common.{arith, ap}
use Rattle.std.specs.Prelude.{slice_index}
use Rattle.cut_server.specs.Table.{samples_of, live_checkpoints}
use Rattle.cut_server.proofs.Places.{nearest-le}
use Rattle.cut_server.proofs.server.CutServer.seek.Goals as goal
use Rattle.cut_server.proofs.server.CutServer.seek.Goals.{then-self-at, else-self-at+else-self-checkpoint}

pub run-requires-clause-later : goal.run-requires-clause-later
run-requires-clause-later g c = elim c.if-self-at.branch [
  | then-self-at w ↦
      let places = ap (λ s. slice_index (samples_of s.table) c.nearest-nearest.result) c.self.view_is in
      omega (arith, ap (λ s. s.standing.samples) w.self-is, w.load.ensures.position, places, c.nearest-nearest.ensures.sample, nearest-le (live_checkpoints c.self.inside.table) c.args.at)
  | else-self-at+else-self-checkpoint w ↦
      omega (arith, ap (λ s. s.standing.samples) w.self-is, ap (λ s. s.standing.samples) c.self.view_is, c.self.invariant.served.position, w.if-self-at.false)
]
