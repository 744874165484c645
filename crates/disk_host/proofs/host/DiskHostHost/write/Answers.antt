use Rattle.std.proofs.Common.{ℕ, ◌∷◌, refl, sym, ap, ◌∙◌, Bool, List, subst, arith}
use Rattle.snd_host.specs.Calls.{write_call}
use Rattle.snd_host.specs.Host.{IsOpen}
use Rattle.snd_host.specs.declared.host.Failed.{Failed}
use Rattle.disk_host.specs.Created.{flags_of}
use Rattle.disk_host.proofs.Outputs.{open_place, number_at, outputs_kept, keeps_input, writes_place, writes_report, writes_complaint, on_places}
use Rattle.disk_host.proofs.host.DiskHostHost.write.Goals as goal

pub write_output-requires : goal.write_output-requires
write_output-requires g c = (
  omega arith,
  (
    omega (arith, c.if-file-eq0.false, c.if-file-eq1.false),
    open_place (flags_of c.args.self.now.kept.created.items) c.args.file.0 (subst (λ (l : List Bool). IsOpen l c.args.file.0) c.args.self.now.kept.ended_is c.requires) c.if-file-eq0.false c.if-file-eq1.false,
  ),
)

pub returns-then-file-eq1-clause-bytes : goal.returns-then-file-eq1-clause-bytes
returns-then-file-eq1-clause-bytes g c =
    let wrote = on_places {X = Failed} g.D.Disk.held (g.D.Disk.texts c.args.self.now.disk) (g.D.Disk.texts c.complain-outcome.new.self) c.args.piece.now c.args.self.now.kept.created.items _ c.complain-outcome.result c.args.file.0 c.count_write.ensures.created
    (writes_complaint g.D.Disk.held (g.D.Disk.texts c.args.self.now.disk) (g.D.Disk.texts c.complain-outcome.new.self) c.args.piece.now c.args.self.now.kept.created.items c.complain-outcome.result c.args.file.0 c.if-file-eq1.true c.complain-outcome.ensures.bytes c.complain-outcome.ensures.report) in
    record { added = wrote.0; others = wrote.1 }

pub returns-then-file-eq0-clause-made : goal.returns-then-file-eq0-clause-made
returns-then-file-eq0-clause-made g c = record {
  calls = c.count_write-then-file-eq0.ensures.calls ∙ ap (λ (n : ℕ). write_call n c.args.piece.now c.report-outcome.result ∷ c.args.self.now.kept.log.calls) (sym c.if-file-eq0.true);
  holds = refl;
  true = λ files known. absurd (cc);
  steady = λ rooms known. absurd (cc);
}

pub returns-then-file-eq0-clause-bytes : goal.returns-then-file-eq0-clause-bytes
returns-then-file-eq0-clause-bytes g c =
    let wrote = on_places {X = Failed} g.D.Disk.held (g.D.Disk.texts c.args.self.now.disk) (g.D.Disk.texts c.report-outcome.new.self) c.args.piece.now c.args.self.now.kept.created.items _ c.report-outcome.result c.args.file.0 c.count_write-then-file-eq0.ensures.created
    (writes_report g.D.Disk.held (g.D.Disk.texts c.args.self.now.disk) (g.D.Disk.texts c.report-outcome.new.self) c.args.piece.now c.args.self.now.kept.created.items c.report-outcome.result c.args.file.0 c.if-file-eq0.true c.report-outcome.ensures.bytes c.report-outcome.ensures.complaint) in
    record { added = wrote.0; others = wrote.1 }

pub returns-clause-made : goal.returns-clause-made
returns-clause-made g c = record { calls = c.write_output.ensures.calls; holds = refl; true = λ files known. absurd (cc); steady = λ rooms known. absurd (cc) }

pub returns-clause-bytes : goal.returns-clause-bytes
returns-clause-bytes g c =
    let wrote = writes_place {X = Failed} g.D.Disk.held (g.D.Disk.texts c.args.self.now.disk) (g.D.Disk.texts c.write_output.new.disk) c.args.piece.now c.args.self.now.kept.created.items c.write_output.new.kept.created.items
    c.write_output.result c.args.file.0 _ c.if-file-eq0.false c.if-file-eq1.false refl c.write_output.ensures.bytes c.write_output.ensures.others c.write_output.ensures.texts in
    record { added = wrote.0; others = wrote.1 }

pub returns-clause-input : goal.returns-clause-input
returns-clause-input g c = keeps_input g.D.Disk.left _ _ c.write_output.ensures.input

pub returns-clause-asked : goal.returns-clause-asked
returns-clause-asked g c = rw (number_at g.D.Disk.number c.args.self.now.kept.created.items c.args.file.0 c.if-file-eq0.false c.if-file-eq1.false) c.write_output.ensures.asked

pub returns-clause-outputs : goal.returns-clause-outputs
returns-clause-outputs g c = outputs_kept g.D.Disk.number c.args.self.now.kept.created.items c.write_output.new.kept.created.items c.write_output.ensures.files
