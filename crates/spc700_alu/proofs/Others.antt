-- To set or clear a flag leaves the flags of a mask that it isn't in.
use Rattle.std.proofs.Common.{◌≡◌, ℕ, ◌-◌, Bool, true, false, bit_and, refl, ap, ◌∙◌}
use Rattle.std.proofs.lemmas.Nat.{and_assoc, and_or_apart}
use Rattle.spc700_alu.specs.Flags.{N, V, H, Z, C, with_flag, SameFlags}

pub and-with_flag : (keep mask : ℕ) (on : Bool) (psw : ℕ) → bit_and mask keep ≡ 0 → bit_and (0xff - mask) keep ≡ keep → bit_and (with_flag mask on psw) keep ≡ bit_and psw keep
and-with_flag keep mask true psw apart inside = and_or_apart keep psw mask apart
and-with_flag keep mask false psw apart inside = and_assoc keep psw (0xff - mask) ∙ ap (λ (m : ℕ). bit_and psw m) inside

pub nz_alone : (n z : Bool) (psw : ℕ) → SameFlags 0x7d psw (with_flag N n (with_flag Z z psw))
nz_alone n z psw = and-with_flag 0x7d N n (with_flag Z z psw) refl refl ∙ and-with_flag 0x7d Z z psw refl refl

pub nzc_alone : (n z c : Bool) (psw : ℕ) → SameFlags 0x7c psw (with_flag N n (with_flag Z z (with_flag C c psw)))
nzc_alone n z c psw =
    and-with_flag 0x7c N n (with_flag Z z (with_flag C c psw)) refl refl
    ∙ and-with_flag 0x7c Z z (with_flag C c psw) refl refl
    ∙ and-with_flag 0x7c C c psw refl refl

pub nvhz_alone : (n z v h : Bool) (psw : ℕ) → SameFlags 0x35 psw (with_flag N n (with_flag Z z (with_flag V v (with_flag H h psw))))
nvhz_alone n z v h psw =
    and-with_flag 0x35 N n (with_flag Z z (with_flag V v (with_flag H h psw))) refl refl
    ∙ and-with_flag 0x35 Z z (with_flag V v (with_flag H h psw)) refl refl
    ∙ and-with_flag 0x35 V v (with_flag H h psw) refl refl
    ∙ and-with_flag 0x35 H h psw refl refl

pub nvhzc_alone : (n z v h c : Bool) (psw : ℕ) → SameFlags 0x34 psw (with_flag N n (with_flag Z z (with_flag V v (with_flag H h (with_flag C c psw)))))
nvhzc_alone n z v h c psw =
    and-with_flag 0x34 N n (with_flag Z z (with_flag V v (with_flag H h (with_flag C c psw)))) refl refl
    ∙ and-with_flag 0x34 Z z (with_flag V v (with_flag H h (with_flag C c psw))) refl refl
    ∙ and-with_flag 0x34 V v (with_flag H h (with_flag C c psw)) refl refl
    ∙ and-with_flag 0x34 H h (with_flag C c psw) refl refl
    ∙ and-with_flag 0x34 C c psw refl refl

pub c_alone : (c : Bool) (psw : ℕ) → SameFlags 0xfe psw (with_flag C c psw)
c_alone c psw = and-with_flag 0xfe C c psw refl refl
