use Rattle.std.proofs.Common.{◌≡◌, length}
use Rattle.spc700_asm.specs.Characters.{without_first_blanks}
use Rattle.spc700_asm.proofs.characters.without_first_blanks.Given as goal

abbrev pub invariant-blanks : goal.invariant-blanks
invariant-blanks l = without_first_blanks l.rest ≡ without_first_blanks l.text

abbrev pub decreases-blanks : goal.decreases-blanks
decreases-blanks l = length l.rest
