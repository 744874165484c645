use Rattle.std.proofs.Common.{ap, refl}
use Rattle.gauss_table.specs.Weights.{weights_in}
use Rattle.gauss_table.specs.declared.refusal.TableRefusal.TheVariants as table
use Rattle.input_files.specs.Inputs.{table_refusal}
use Rattle.input_files.proofs.Readings.{accepts_value, declines_error}
use Rattle.input_files.proofs.inputs.accept_table.Goals as goal

pub returns-in-Ok : goal.returns-in-Ok
returns-in-Ok c = accepts_value table_refusal (weights_in c.args.bytes.now) c.in-Ok.table c.in-Ok.ensures.table

pub returns-in-Err-Length : goal.returns-in-Err-Length
returns-in-Err-Length c = record {
  ok = tt;
  err = declines_error table_refusal (weights_in c.args.bytes.now) c.in-Err-Length.field-0 table.OutOfMemory _ c.in-Err-Length.ensures.causes (ap table_refusal c.in-Err-Length.field-0-is) refl
      (λ wrong. absurd (cc)) (λ wrong. absurd (cc)) (λ wrong. absurd (cc));
}
