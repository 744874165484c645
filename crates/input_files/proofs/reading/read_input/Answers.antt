use Rattle.std.proofs.Common.{subst, Err}
use Rattle.snd_host.specs.Takes.{ComesOut}
use Rattle.snd_host.specs.declared.calls.ReadRefusal.{ReadRefusal}
use Rattle.input_files.proofs.Readings.{too_long_bytes, short_bytes}
use Rattle.input_files.proofs.reading.read_input.Goals as goal

pub returns-in-Ok-clause-reads : goal.returns-in-Ok-clause-reads
returns-in-Ok-clause-reads g c =
    let e = c.in-Ok.ensures in
    record { bytes = c.in-Ok.bytes.items; taken = e.calls.calls; since = e.calls.since; ends = (e.calls.comes, short_bytes c.args.limit c.args.too_long c.in-Ok.bytes.items e.bounded) }

pub returns-in-Err-Failed-clause-reads : goal.returns-in-Err-Failed-clause-reads
returns-in-Err-Failed-clause-reads g c =
    let e = c.in-Err-Failed.ensures in
    let comes = subst (λ (r : ReadRefusal). ComesOut c.args.name.now c.args.limit e.calls.calls (Err r)) c.in-Err-Failed.field-0-is e.calls.comes in
    record { bytes = comes.0; taken = e.calls.calls; since = e.calls.since; ends = comes.1 }

pub returns-in-Err-OutOfMemory-clause-reads : goal.returns-in-Err-OutOfMemory-clause-reads
returns-in-Err-OutOfMemory-clause-reads g c =
    let e = c.in-Err-OutOfMemory.ensures in
    let comes = subst (λ (r : ReadRefusal). ComesOut c.args.name.now c.args.limit e.calls.calls (Err r)) c.in-Err-OutOfMemory.field-0-is e.calls.comes in
    record { bytes = comes.0; taken = e.calls.calls; since = e.calls.since; ends = comes.1 }

pub returns-in-Err-TooLong-clause-reads : goal.returns-in-Err-TooLong-clause-reads
returns-in-Err-TooLong-clause-reads g c =
    let e = c.in-Err-TooLong.ensures in
    let comes = subst (λ (r : ReadRefusal). ComesOut c.args.name.now c.args.limit e.calls.calls (Err r)) c.in-Err-TooLong.field-0-is e.calls.comes in
    record { bytes = comes.0; taken = e.calls.calls; since = e.calls.since; ends = (comes.1, too_long_bytes c.args.limit c.args.too_long comes.0 comes.2) }
