use Rattle.std.proofs.Common.{refl, Bool, slice_set, ap, ◌∙◌}
use Rattle.disk_host.proofs.Places.{here, flags_set, known_here, known_kept, keeps_at}
use Rattle.disk_host.specs.Created.{flags_of}
use Rattle.disk_host.proofs.host.end_created.Goals as goal

pub returns-clause-flags : goal.returns-clause-flags
returns-clause-flags g c =
    flags_set c.args.created.now.items c.args.place _ ∙ ap (λ (b : Bool). slice_set (flags_of c.args.created.now.items) c.args.place b) c.flush_output-outcome.ensures.ended

pub returns-clause-bytes : goal.returns-clause-bytes
returns-clause-bytes g c =
    let is = here _ _ c.in-Some.slot.now c.take.result c.in-Some-take.output (c.in-Some.ensures.variant.0 refl) c.in-Some.ensures.value c.take.ensures.value c.in-Some-take.is in
    keeps_at g.D.Disk.held c.args.created.now.items c.args.place _ _ is c.flush_output-outcome.ensures.bytes

pub returns-clause-files : goal.returns-clause-files
returns-clause-files g c =
    let is = here _ _ c.in-Some.slot.now c.take.result c.in-Some-take.output (c.in-Some.ensures.variant.0 refl) c.in-Some.ensures.value c.take.ensures.value c.in-Some-take.is in
    known_kept g.D.Disk.number 0 c.args.created.now.items c.args.place _ _ is c.flush_output-outcome.ensures.file

pub returns-clause-asked : goal.returns-clause-asked
returns-clause-asked g c =
    let is = here _ _ c.in-Some.slot.now c.take.result c.in-Some-take.output (c.in-Some.ensures.variant.0 refl) c.in-Some.ensures.value c.take.ensures.value c.in-Some-take.is in
    rw (known_here g.D.Disk.number 0 c.args.created.now.items c.args.place _ is) c.flush_output-outcome.ensures.asked
