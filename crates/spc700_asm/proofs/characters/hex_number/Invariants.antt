use Rattle.std.proofs.Common.{◌≡◌, ◌<◌, ◌^◌, drop}
use Rattle.spc700_asm.specs.Characters.{number_of_hex_digits}
use Rattle.spc700_asm.proofs.characters.hex_number.Given as goal

-- the digits that are left go on from the number so far
abbrev pub invariant-loop-digit : goal.invariant-loop-digit
invariant-loop-digit l = record {
  value : number_of_hex_digits l.number (drop l.digit-index l.digits) ≡ number_of_hex_digits 0 l.digits;
  bound : l.number < 16 ^ l.digit-index;
}
