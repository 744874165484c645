use Rattle.std.proofs.Common.{◌≡◌, ◌∙◌, true, false, refl, sym, ap, arith}
use Rattle.cut_form.specs.Checkpoints.{pages_of, shared_with_newest, own_slots}
use Rattle.cut_server.specs.Table.{live_checkpoints}
use Rattle.cut_server.proofs.Places.{length-live, length-samples}
use Rattle.cut_server.proofs.OnTheRun.{tune_more}
use Rattle.cut_server.proofs.Renders.{needed_is, taken_is}
use Rattle.cut_server.proofs.Serving.{serving_more}
use Rattle.cut_server.proofs.server.CutServer.checkpoint.Goals as goal

pub add-requires-clause-few : goal.add-requires-clause-few
add-requires-clause-few g c =
    let few = rw (← c.self.view_is) at c.requires.few in
    omega (arith, few, length-live c.self.inside.table, length-samples c.self.inside.table)

pub add-requires-clause-shared : goal.add-requires-clause-shared
add-requires-clause-shared g c =
    c.shared_pages-shared.ensures ∙ ap (λ memory. shared_with_newest (live_checkpoints c.self.inside.table) (pages_of memory)) (c.memory.ensures ∙ sym c.memory-2.ensures)

pub invariant_of-self : goal.invariant_of-self
invariant_of-self g c = serving_more g.met.C.Chip.saves_lawfully c.self.invariant _ _ _ c.save-state.ensures.saved c.memory-2.ensures c.add.ensures.saved

pub returns-clause-tune : goal.returns-clause-tune
returns-clause-tune g c = rw (← c.self.view_is) (tune_more c.self.invariant.served _ _ c.add.ensures.saved c.add.ensures.size)

false_not_true : false ≡ true → ⊥
false_not_true same = cc

pub returns-then-need-free-clause-need : goal.returns-then-need-free-clause-need
returns-then-need-free-clause-need g c = rw (← c.self.view_is) (needed_is c.self.invariant c.memory.result.now c.memory.ensures c.own_slots-need.result (c.own_slots-need.ensures ∙ ap own_slots c.shared_pages-shared.ensures))

pub returns-then-need-free-clause-exactly : goal.returns-then-need-free-clause-exactly
returns-then-need-free-clause-exactly g c =
    let need = needed_is c.self.invariant c.memory.result.now c.memory.ensures c.own_slots-need.result (c.own_slots-need.ensures ∙ ap own_slots c.shared_pages-shared.ensures) in
    rw (← c.self.view_is) (λ ok. absurd (false_not_true ok), λ few. absurd (omega (arith, few, need, c.free-free.ensures.free, c.if-need-free.true)))

pub returns-clause-taken : goal.returns-clause-taken
returns-clause-taken g c = rw (← c.self.view_is) (taken_is c.self.invariant c.memory-2.result.now c.memory-2.ensures c.add.new.self c.add.ensures.live)

pub returns-clause-exactly : goal.returns-clause-exactly
returns-clause-exactly g c =
    let need = needed_is c.self.invariant c.memory.result.now c.memory.ensures c.own_slots-need.result (c.own_slots-need.ensures ∙ ap own_slots c.shared_pages-shared.ensures) in
    rw (← c.self.view_is) (λ ok. omega (arith, need, c.free-free.ensures.free, c.if-need-free.false), λ few. refl)
