use Rattle.std.proofs.Common.{◌≡◌, drop}
use Rattle.std.specs.Str.{bytes_eq}
use Rattle.spc700_asm.specs.Characters.{capitals}
use Rattle.spc700_asm.proofs.characters.is_capitals_of.Given as goal

abbrev pub invariant-loop-capital : goal.invariant-loop-capital
invariant-loop-capital l = bytes_eq (capitals l.rest) (drop l.capital-index l.name) ≡ bytes_eq (capitals l.text) l.name
