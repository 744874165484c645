-- A chip counts on over nothing, and over one span after another.
use Rattle.std.proofs.Common.{◌≡◌, ◌^◌, ◌<◌, ℕ, arith}
use Rattle.lock_step.specs.Emits.{CountsOn}

pub counts_on_none : (due pending total : ℕ) → CountsOn due pending total due pending total
counts_on_none due pending total = record { rises = omega arith; counted = λ fits. omega arith }

pub counts_on_then : {due pending total then_due then_pending then_total new_due new_pending new_total : ℕ}
    → CountsOn due pending total then_due then_pending then_total → CountsOn then_due then_pending then_total new_due new_pending new_total
    → CountsOn due pending total new_due new_pending new_total
counts_on_then {total = total} {then_total = then_total} first second =
    let one = first.rises in
    let two = second.rises in
    record {
      rises = omega arith;
      counted = λ fits.
          let before = first.counted fits in
          let small : then_total < 2 ^ 64 = omega arith in
          let after = second.counted small in
          omega arith;
    }

-- the same where the numbers are given by equations
pub counts_on_same : {due pending total new_due new_pending new_total : ℕ} → new_due ≡ due → new_pending ≡ pending → new_total ≡ total → CountsOn due pending total new_due new_pending new_total
counts_on_same one two three = record { rises = omega arith; counted = λ fits. omega arith }
