use Rattle.std.proofs.Common.{refl, None}
use Rattle.disk_host.proofs.Places.{here, flags_kept, known_here, known_after, known_other, known_kept}
use Rattle.disk_host.proofs.host.write_created.Goals as goal

pub returns-clause-flags : goal.returns-clause-flags
returns-clause-flags g c =
    let is = here _ _ c.in-Some.slot.now c.take.result c.in-Some-take.output (c.in-Some.ensures.variant.0 refl) c.in-Some.ensures.value c.take.ensures.value c.in-Some-take.is in
    flags_kept c.args.created.now.items c.args.place _ _ is refl

pub returns-clause-bytes : goal.returns-clause-bytes
returns-clause-bytes g c =
    let is = here _ _ c.in-Some.slot.now c.take.result c.in-Some-take.output (c.in-Some.ensures.variant.0 refl) c.in-Some.ensures.value c.take.ensures.value c.in-Some-take.is in
    rw (known_here g.D.Disk.held None c.args.created.now.items c.args.place _ is) (rw (known_after g.D.Disk.held None c.args.created.now.items c.args.place _ _ is) c.write-outcome.ensures.bytes)

pub returns-clause-others : goal.returns-clause-others
returns-clause-others g c = known_other g.D.Disk.held None c.args.created.now.items c.args.place _

pub returns-clause-files : goal.returns-clause-files
returns-clause-files g c =
    let is = here _ _ c.in-Some.slot.now c.take.result c.in-Some-take.output (c.in-Some.ensures.variant.0 refl) c.in-Some.ensures.value c.take.ensures.value c.in-Some-take.is in
    known_kept g.D.Disk.number 0 c.args.created.now.items c.args.place _ _ is c.write-outcome.ensures.file

pub returns-clause-asked : goal.returns-clause-asked
returns-clause-asked g c =
    let is = here _ _ c.in-Some.slot.now c.take.result c.in-Some-take.output (c.in-Some.ensures.variant.0 refl) c.in-Some.ensures.value c.take.ensures.value c.in-Some-take.is in
    rw (known_here g.D.Disk.number 0 c.args.created.now.items c.args.place _ is) c.write-outcome.ensures.asked
