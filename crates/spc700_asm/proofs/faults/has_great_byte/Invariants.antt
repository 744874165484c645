use Rattle.std.proofs.Common.{◌≡◌, [], map, nat_lt}
use Rattle.std.specs.Prelude.{IsSome, option_copied, unwrap_or}
use Rattle.std.specs.List.{list_any}
use Rattle.spc700_asm.specs.Characters.{trim, number_of}
use Rattle.spc700_asm.specs.Statements.{all_of, items_of}
use Rattle.spc700_asm.specs.Seen.{length_left}
use Rattle.text_form.specs.Parts.{parts_left}
use Rattle.spc700_asm.proofs.faults.has_great_byte.Given as goal

abbrev pub invariant-items : goal.invariant-items
invariant-items l = record {
  items : IsSome (all_of number_of (map trim (parts_left 44 (option_copied l.rest))));
  great : list_any (nat_lt 0xFF) (unwrap_or (all_of number_of (map trim (parts_left 44 (option_copied l.rest)))) []) ≡ list_any (nat_lt 0xFF) (unwrap_or (all_of number_of (items_of l.items)) []);
}

abbrev pub decreases-items : goal.decreases-items
decreases-items l = length_left (option_copied l.rest)
