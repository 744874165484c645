use Rattle.std.proofs.Common.{◌≡◌, map}
use Rattle.std.specs.Prelude.{IsSome, option_copied}
use Rattle.spc700_asm.specs.Characters.{trim, number_of}
use Rattle.spc700_asm.specs.Statements.{all_of, items_of}
use Rattle.spc700_asm.specs.Assembly.{with_front, number_bytes}
use Rattle.spc700_asm.specs.Seen.{length_left}
use Rattle.text_form.specs.Parts.{parts_left}
use Rattle.spc700_asm.proofs.emission.push_bytes.Given as goal

-- what was added and the bytes of the items that are left
abbrev pub invariant-items : goal.invariant-items
invariant-items l = record {
  items : IsSome (all_of number_of (map trim (parts_left 44 (option_copied l.rest))));
  bytes : with_front l.out.items (number_bytes 1 (all_of number_of (map trim (parts_left 44 (option_copied l.rest))))) ≡ with_front l.fn.out.items (number_bytes 1 (all_of number_of (items_of l.items)));
}

abbrev pub decreases-items : goal.decreases-items
decreases-items l = length_left (option_copied l.rest)
