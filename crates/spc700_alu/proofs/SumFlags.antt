-- The flags of a sum that were set one after another.
use Rattle.std.proofs.Common.{◌≡◌, ℕ, ◌<◌, Bool, true, false, ◌&&◌, nat_lt, refl}
use Rattle.std.proofs.lemmas.Bool.{and_parts, ltb-true}
use Rattle.spc700_alu.specs.Flags.{N, V, H, Z, C, flag, with_flag}
use Rattle.spc700_alu.proofs.Apart.{all_below, at_each, same, from_same}

-- a test of both answers
abbrev pub of_both : (Bool → Bool) → Bool
of_both test = test true && test false

pub at_one : (test : Bool → Bool) (b : Bool) → of_both test ≡ true → test b ≡ true
at_one test true h = (and_parts _ _ h).0
at_one test false h = (and_parts _ _ h).1

-- a status with the five flags of a sum
abbrev pub with_five : (n z v h c : Bool) → (psw : ℕ) → ℕ
with_five n z v h c psw = with_flag N n (with_flag Z z (with_flag V v (with_flag H h (with_flag C c psw))))

-- it has the three that were asked for, and is a byte
abbrev has_three : (psw : ℕ) → (n z v h c : Bool) → Bool
has_three psw n z v h c =
    let new = with_five n z v h c psw in
    same (flag V new) v && (same (flag H new) h && (same (flag C new) c && nat_lt new 256))

abbrev has_all : (psw : ℕ) → Bool
has_all psw = of_both (λ n. of_both (λ z. of_both (λ v. of_both (λ h. of_both (λ c. has_three psw n z v h c)))))

all_have : all_below has_all 256 ≡ true
all_have = refl

three : (psw : ℕ) (n z v h c : Bool) → psw < 256 → has_three psw n z v h c ≡ true
three psw n z v h c below =
    at_one (λ c. has_three psw n z v h c) c
    (at_one (λ h. of_both (λ c. has_three psw n z v h c)) h
    (at_one (λ v. of_both (λ h. of_both (λ c. has_three psw n z v h c))) v
    (at_one (λ z. of_both (λ v. of_both (λ h. of_both (λ c. has_three psw n z v h c)))) z
    (at_one (λ n. of_both (λ z. of_both (λ v. of_both (λ h. of_both (λ c. has_three psw n z v h c))))) n
    (at_each has_all 256 psw all_have below)))))

pub v_of_five : (psw : ℕ) (n z v h c : Bool) → psw < 256 → flag V (with_five n z v h c psw) ≡ v
v_of_five psw n z v h c below = from_same _ _ (and_parts _ _ (three psw n z v h c below)).0

pub h_of_five : (psw : ℕ) (n z v h c : Bool) → psw < 256 → flag H (with_five n z v h c psw) ≡ h
h_of_five psw n z v h c below = from_same _ _ (and_parts _ _ (and_parts _ _ (three psw n z v h c below)).1).0

pub c_of_five : (psw : ℕ) (n z v h c : Bool) → psw < 256 → flag C (with_five n z v h c psw) ≡ c
c_of_five psw n z v h c below = from_same _ _ (and_parts _ _ (and_parts _ _ (and_parts _ _ (three psw n z v h c below)).1).1).0

pub with_five-small : (psw : ℕ) (n z v h c : Bool) → psw < 256 → with_five n z v h c psw < 256
with_five-small psw n z v h c below =
    let new = with_five n z v h c psw in
    let fits = nat_lt new 256 in
    let without_v = (and_parts (same (flag V new) v) (same (flag H new) h && (same (flag C new) c && fits)) (three psw n z v h c below)).1 in
    let without_h = (and_parts (same (flag H new) h) (same (flag C new) c && fits) without_v).1 in
    ltb-true new 256 (and_parts (same (flag C new) c) fits without_h).1

-- C in a status with the three flags of an adjustment
abbrev has_carry : (psw : ℕ) → (n z c : Bool) → Bool
has_carry psw n z c = same (flag C (with_flag N n (with_flag Z z (with_flag C c psw)))) c

abbrev has_carries : (psw : ℕ) → Bool
has_carries psw = of_both (λ n. of_both (λ z. of_both (λ c. has_carry psw n z c)))

all_have_carries : all_below has_carries 256 ≡ true
all_have_carries = refl

pub c_of_three : (psw : ℕ) (n z c : Bool) → psw < 256 → flag C (with_flag N n (with_flag Z z (with_flag C c psw))) ≡ c
c_of_three psw n z c below =
    from_same _ _
    (at_one (λ c. has_carry psw n z c) c
    (at_one (λ z. of_both (λ c. has_carry psw n z c)) z
    (at_one (λ n. of_both (λ z. of_both (λ c. has_carry psw n z c))) n
    (at_each has_carries 256 psw all_have_carries below))))
