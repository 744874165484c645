use Rattle.std.proofs.Common.{◌≡◌, ◌∙◌, sym}
use Rattle.spc_form.proofs.Refusals.{never_refused}
use Rattle.sample_rip.specs.Rip.{rip_samples}
use Rattle.sample_rip.proofs.Sizes.{rip_is_encodable, report_is}
use Rattle.sample_rip.proofs.reencoding.reencode.Goals as goal

pub returns-in-Ok : goal.returns-in-Ok
returns-in-Ok c =
    let samples : c.deref.result.now ≡ rip_samples c.args.memory.now c.args.found.now = c.deref.ensures.value ∙ c.in_ok-samples.ensures in
    report_is c.args.memory.now c.args.found.now c.deref.result.now c.is_looped.result c.in-Ok.encoded.bytes.items c.deref-in-Ok.result.now c.errors_of.result
    c.requires.some c.requires.few samples c.is_looped.ensures c.in-Ok.ensures.bytes (c.deref-in-Ok.ensures.value ∙ c.in-Ok.ensures.reports) c.errors_of.ensures

pub unreachable-requires : goal.unreachable-requires
unreachable-requires c =
    let samples : c.deref.result.now ≡ rip_samples c.args.memory.now c.args.found.now = c.deref.ensures.value ∙ c.in_ok-samples.ensures in
    let read = (rw (sym samples) at (rip_is_encodable c.args.memory.now c.args.found.now c.is_looped.result c.requires.some c.requires.few)) in
    let memory = never_refused _ _ c.in-Err-Empty.field-0 _ read (rw c.in-Err-Empty.is at c.encode.ensures.causes) in
    let empty = c.in-Err-Empty.field-0-is in
    absurd (cc)

pub unreachable-requires-in-Err-TooLong : goal.unreachable-requires-in-Err-TooLong
unreachable-requires-in-Err-TooLong c =
    let samples : c.deref.result.now ≡ rip_samples c.args.memory.now c.args.found.now = c.deref.ensures.value ∙ c.in_ok-samples.ensures in
    let read = (rw (sym samples) at (rip_is_encodable c.args.memory.now c.args.found.now c.is_looped.result c.requires.some c.requires.few)) in
    let memory = never_refused _ _ c.in-Err-TooLong.field-0 _ read (rw c.in-Err-TooLong.is at c.encode.ensures.causes) in
    let too_long = c.in-Err-TooLong.field-0-is in
    absurd (cc)
