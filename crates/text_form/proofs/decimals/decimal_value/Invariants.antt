use Rattle.std.proofs.Common.{◌≡◌, ◌<◌, ◌^◌, take}
use Rattle.text_form.specs.Decimals.{decimal_value}
use Rattle.text_form.proofs.decimals.decimal_value.Given as goal

-- the number of the digits so far
abbrev pub invariant-loop-digit : goal.invariant-loop-digit
invariant-loop-digit l = record {
  value : l.value ≡ decimal_value (take l.digit-index l.digits);
  bound : l.value < 10 ^ l.digit-index;
}
