-- The capacity that samples take which fall due.
use Rattle.std.proofs.Common.{◌≡◌, ◌⊎◌, inl, inr, ℕ, ◌+◌, ◌*◌, ◌<◌, ◌≤◌, arith}

-- each of them has a call, or nothing was to be handed over before them
pub frames_of_fallen : (used pending fallen old calls : ℕ) → used ≤ 63 + old → pending + fallen < 64 → (old + fallen ≤ calls) ⊎ (used ≡ pending) → used + fallen ≤ 63 + calls
frames_of_fallen used pending fallen old calls fits free counted = elim counted [
  | inl each ↦ omega arith
  | inr none ↦ omega arith
]

pub records_of_fallen : (used events pending fallen old calls : ℕ) → used ≤ 256 + 8 * 63 + 8 * old → events ≤ 256 → pending + fallen < 64 → (old + fallen ≤ calls) ⊎ (used ≡ events + 8 * pending)
    → used + 8 * fallen ≤ 256 + 8 * 63 + 8 * calls
records_of_fallen used events pending fallen old calls fits few free counted = elim counted [
  | inl each ↦ omega arith
  | inr none ↦ omega arith
]
