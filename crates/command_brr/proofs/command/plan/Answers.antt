use Rattle.std.proofs.Common.{rules, ap, refl}
use Rattle.brr_decode.specs.Stream.{decoded_stream}
use Rattle.brr_decode.specs.declared.stream.BrrRefusal.TheVariants as brr
use Rattle.command_runner.specs.Plan.{plan_makes}
use Rattle.input_files.specs.Reading.{refused_by}
use Rattle.input_files.proofs.Readings.{declines_error, plans_declined}
use Rattle.command_brr.specs.Brr.{brr_refusal, samples_answer}
use Rattle.command_brr.proofs.Lengths.{length-decoded_stream}
use Rattle.command_brr.proofs.command.plan.Goals as goal

pub wave-requires : goal.wave-requires
wave-requires c =
    let few = length-decoded_stream c.args.bytes.now c.in-Ok.samples.items c.in-Ok.ensures.samples in
    search rules

pub returns-in-Err-Length : goal.returns-in-Err-Length
returns-in-Err-Length c =
    rw c.in-Err-Length.field-0-is
    (plans_declined plan_makes (refused_by brr_refusal (decoded_stream c.args.bytes.now)) (samples_answer c.args.output.now c.args.bytes.now) _
    (declines_error brr_refusal (decoded_stream c.args.bytes.now) c.in-Err-Length.field-0 brr.OutOfMemory _ c.in-Err-Length.ensures.causes (ap brr_refusal c.in-Err-Length.field-0-is) refl
    (λ wrong. absurd (cc)) (λ wrong. absurd (cc)) (λ wrong. absurd (cc))))
