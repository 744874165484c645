-- The digits at the front of a text.
use Rattle.std.proofs.Common.{◌≡◌, ℕ, ◌<◌, List, take, get_or, true, arith}
use Rattle.std.specs.List.{prefix_len, All}
use Rattle.std.specs.Char.{IsAsciiDigit, is_ascii_digit}
use Rattle.std.proofs.lemmas.List.{length-take, get_or-take}
use Rattle.std.proofs.lemmas.List.Sums.{prefix_len_passes}
use Rattle.std.proofs.lemmas.Grind.{common_steps}

is_digit : (c : ℕ) → is_ascii_digit c ≡ true → IsAsciiDigit c
is_digit c passes = grind (arith, common_steps)

-- the digits at the front of a text are digits
pub digits_pass : (text : List ℕ) (count : ℕ) → count ≡ prefix_len is_ascii_digit text → All IsAsciiDigit (take count text)
digits_pass text count is = λ k d inside.
    let small : k < count = omega (arith, rw length-take at inside) in
    let in_front : k < prefix_len is_ascii_digit text = omega arith in
    let read = get_or-take count text k d small in
    let passes : is_ascii_digit (get_or text k d) ≡ true = prefix_len_passes is_ascii_digit text k d in_front in
    rw read (is_digit (get_or text k d) passes)
