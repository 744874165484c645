use Rattle.std.proofs.Common.{◌≡◌, ℕ, ◌*◌, length, arith, ap, sym, ◌∙◌}
use Rattle.spc700_asm.specs.Characters.{number_of}
use Rattle.spc700_asm.specs.Operands.{written_of}
use Rattle.spc700_asm.specs.Statements.{Bytes, Words, items_of}
use Rattle.spc700_asm.specs.Labels.{size_of}
use Rattle.spc700_asm.specs.Seen.{within}
use Rattle.spc700_asm.proofs.Sizes.{items_seen}
use Rattle.spc700_asm.proofs.faults.size_within.Goals as goal

pub returns-in-Bytes : goal.returns-in-Bytes
returns-in-Bytes c =
    rw c.in-Bytes.is (items_seen number_of (items_of c.in-Bytes.items.now) Bytes (λ seen. c.items_size.result ≡ within c.args.room (size_of seen))
    (λ found same. c.items_size.ensures ∙ ap (within c.args.room) (let e : 1 * length (items_of c.in-Bytes.items.now) ≡ length found = omega arith in e)))

pub returns-in-Words : goal.returns-in-Words
returns-in-Words c =
    rw c.in-Words.is (items_seen written_of (items_of c.in-Words.items.now) Words (λ seen. c.items_size-in-Words.result ≡ within c.args.room (size_of seen))
    (λ found same. c.items_size-in-Words.ensures ∙ ap (within c.args.room) (ap (λ (n : ℕ). 2 * n) (sym same))))
