use Rattle.std.proofs.Common.{◌∙◌, sym, length, ap, List, ℕ}
use Rattle.spc_form.proofs.Padding.{written_is_read_again}
use Rattle.spc_form.proofs.reading.write_spc.Goals as goal

pub returns-clause-read_again : goal.returns-clause-read_again
returns-clause-read_again c =
    written_is_read_again (λ written. written.items) c.from_slice.result c.args.file.now (ap (λ (bytes : List ℕ). length bytes) (sym c.as_slice.ensures.bytes) ∙ c.as_slice.ensures.len) c.as_slice.ensures.signed (rw c.as_slice.ensures.bytes at c.from_slice.ensures.items)
