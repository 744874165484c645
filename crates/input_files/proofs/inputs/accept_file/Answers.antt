use Rattle.std.proofs.Common.{ap, refl}
use Rattle.spc_form.specs.Accepted.{spc_file}
use Rattle.spc_form.specs.declared.reading.SpcRefusal.TheVariants as spc
use Rattle.input_files.specs.Inputs.{spc_refusal}
use Rattle.input_files.proofs.Readings.{accepts_value, declines_error}
use Rattle.input_files.proofs.inputs.accept_file.Goals as goal

pub returns-in-Ok : goal.returns-in-Ok
returns-in-Ok c = accepts_value spc_refusal (spc_file c.args.bytes.now) c.in-Ok.file c.in-Ok.ensures.file

pub returns-in-Err-Length : goal.returns-in-Err-Length
returns-in-Err-Length c = record {
  ok = tt;
  err = declines_error spc_refusal (spc_file c.args.bytes.now) c.in-Err-Length.field-0 spc.OutOfMemory _ c.in-Err-Length.ensures.causes (ap spc_refusal c.in-Err-Length.field-0-is) refl
      (λ wrong. absurd (cc)) (λ wrong. absurd (cc)) (λ wrong. absurd (cc));
}

pub returns-in-Err-Signature : goal.returns-in-Err-Signature
returns-in-Err-Signature c = record {
  ok = tt;
  err = declines_error spc_refusal (spc_file c.args.bytes.now) c.in-Err-Signature.field-0 spc.OutOfMemory _ c.in-Err-Signature.ensures.causes (ap spc_refusal c.in-Err-Signature.field-0-is) refl
      (λ wrong. absurd (cc)) (λ wrong. absurd (cc)) (λ wrong. absurd (cc));
}
