use Rattle.std.proofs.Common.{◌≡◌, map}
use Rattle.std.specs.Prelude.{is_some, option_copied}
use Rattle.spc700_asm.specs.Characters.{trim, number_of}
use Rattle.spc700_asm.specs.Statements.{all_of, items_of}
use Rattle.spc700_asm.specs.Seen.{length_left}
use Rattle.text_form.specs.Parts.{parts_left}
use Rattle.spc700_asm.proofs.parts.are_numbers.Given as goal

abbrev pub invariant-items : goal.invariant-items
invariant-items l = is_some (all_of number_of (map trim (parts_left 44 (option_copied l.rest)))) ≡ is_some (all_of number_of (items_of l.items))

abbrev pub decreases-items : goal.decreases-items
decreases-items l = length_left (option_copied l.rest)
