use Rattle.std.proofs.Common.{rules, ◌≡◌, ◌-◌, Bool, false, List, Some, slice_get, arith, subst}
use Rattle.disk_host.proofs.Outputs.{number_at, outputs_kept, holds_on}
use Rattle.disk_host.proofs.host.DiskHostHost.finish.Goals as goal

pub end_output-requires : goal.end_output-requires
end_output-requires g c =
    (search rules, (c.requires.created, subst (λ (l : List Bool). slice_get l (c.args.file.0 - 2) ≡ Some false) c.args.self.now.kept.ended_is c.requires.open_yet))

pub returns-clause-asked : goal.returns-clause-asked
returns-clause-asked g c =
    let at = number_at g.D.Disk.number c.args.self.now.kept.created.items c.args.file.0 (λ none. omega (arith, none, c.requires.created)) (λ one. omega (arith, one, c.requires.created)) in
    rw (at) c.end_output.ensures.asked

pub returns-clause-outputs : goal.returns-clause-outputs
returns-clause-outputs g c = outputs_kept g.D.Disk.number c.args.self.now.kept.created.items c.end_output.new.kept.created.items c.end_output.ensures.files

pub returns-clause-held : goal.returns-clause-held
returns-clause-held g c = holds_on g.D.Disk.held (g.D.Disk.texts c.args.self.now.disk) (g.D.Disk.texts c.end_output.new.disk) c.args.self.now.kept.created.items c.end_output.new.kept.created.items c.end_output.ensures.bytes c.end_output.ensures.texts
