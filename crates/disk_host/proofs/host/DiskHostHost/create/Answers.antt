use Rattle.std.proofs.Common.{rules, ℕ, ◌+◌, ◌≤◌, Bool, List, ◌∷◌, length, subst, sym, ap, ◌∙◌, arith}
use Rattle.std.proofs.lemmas.List.{length-map}
use Rattle.std.proofs.lemmas.Grind.{common_steps}
use Rattle.snd_host.specs.Calls.{created}
use Rattle.disk_host.specs.Created.{max_created, is_ended}
use Rattle.disk_host.proofs.Outputs.{number_last, outputs_but, holds_stay, keeps_input, not_full, room_left}
use Rattle.disk_host.proofs.host.DiskHostHost.create.Goals as goal

pub overflow_add-number : goal.overflow_add-number
overflow_add-number c = grind (arith, common_steps)

pub overflow_cast-number : goal.overflow_cast-number
overflow_cast-number c = grind (arith, common_steps)

pub returns-clause-held : goal.returns-clause-held
returns-clause-held g c =
    holds_stay g.D.Disk.held (g.D.Disk.texts c.args.self.now.disk) (g.D.Disk.texts c.create.new.self) c.args.self.now.kept.created.items c.take_output.new.self.created.items _ c.take_output.ensures.created c.in-Ok.ensures.texts

pub returns-clause-number : goal.returns-clause-number
returns-clause-number g c =
    let flags = ap (length {A = Bool}) c.args.self.now.kept.ended_is in
    omega (arith, flags, length-map c.args.self.now.kept.created.items is_ended, c.len.ensures.value)

pub returns-clause-asked : goal.returns-clause-asked
returns-clause-asked g c = λ few.
    let last = number_last g.D.Disk.number c.args.self.now.kept.created.items c.take_output.new.self.created.items _ c.len.result c.take_output.ensures.created c.len.ensures.value in
    c.in-Ok.ensures.asked ∙ ap (λ (n : ℕ). created c.args.name.now n ∷ g.D.Disk.calls c.args.self.now.disk) (sym last)

pub returns-clause-no_place : goal.returns-clause-no_place
returns-clause-no_place g c = λ most.
    absurd (not_full c.args.self.now.kept.created.items c.is_full.result c.is_full.ensures.fits c.is_full.ensures.value c.if-is_full.false (subst (λ (l : List Bool). max_created ≤ length l) c.args.self.now.kept.ended_is most))

pub returns-clause-outputs : goal.returns-clause-outputs
returns-clause-outputs g c = λ output apart.
    outputs_but g.D.Disk.number c.args.self.now.kept.created.items c.take_output.new.self.created.items _ c.take_output.ensures.created output
    (λ is. apart (is ∙ sym (ap (λ (l : List Bool). length l + 2) c.args.self.now.kept.ended_is)))

pub take_output-requires : goal.take_output-requires
take_output-requires g c = (search rules, room_left _ c.is_full.result c.is_full.ensures.fits c.is_full.ensures.value c.if-is_full.false)

pub returns-clause-input : goal.returns-clause-input
returns-clause-input g c = keeps_input g.D.Disk.left _ _ c.take_output.ensures.input
