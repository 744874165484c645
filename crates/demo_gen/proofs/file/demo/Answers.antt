use Rattle.std.proofs.Common.{◌∙◌}
use Rattle.spc_form.proofs.Refusals.{never_refused}
use Rattle.demo_gen.proofs.Signed.{read_as_demo}
use Rattle.demo_gen.proofs.file.demo.Goals as goal

pub returns-in-Ok : goal.returns-in-Ok
returns-in-Ok c =
    let read = read_as_demo c.deref.result.now c.args.number (c.deref.ensures.value ∙ c.in_ok-bytes.ensures.bytes) in
    let file = c.in-Ok.ensures.file in
    cc

pub unreachable-requires : goal.unreachable-requires
unreachable-requires c =
    let read = read_as_demo c.deref.result.now c.args.number (c.deref.ensures.value ∙ c.in_ok-bytes.ensures.bytes) in
    let memory = never_refused _ _ c.in-Err-Length.field-0 _ read (rw c.in-Err-Length.is at c.read_spc.ensures.causes) in
    let length = c.in-Err-Length.field-0-is in
    absurd (cc)

pub unreachable-requires-in-Err-Signature : goal.unreachable-requires-in-Err-Signature
unreachable-requires-in-Err-Signature c =
    let read = read_as_demo c.deref.result.now c.args.number (c.deref.ensures.value ∙ c.in_ok-bytes.ensures.bytes) in
    let memory = never_refused _ _ c.in-Err-Signature.field-0 _ read (rw c.in-Err-Signature.is at c.read_spc.ensures.causes) in
    let signature = c.in-Err-Signature.field-0-is in
    absurd (cc)
