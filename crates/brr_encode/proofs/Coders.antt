-- What an encoder holds after targets.
use Rattle.std.proofs.Common.{◌≡◌, ℕ, suc, ◌+◌, max, Bool, ℤ, List, [], ◌∷◌, length, refl, ap, ◌∙◌, arith}
use Rattle.num_fix.specs.SignedWords.{number_at}
use Rattle.brr_encode.specs.Greedy.{greedy_samples, squares}
use Rattle.brr_encode.specs.Report.{worst}
use Rattle.brr_encode.specs.Encoding.{best_header, block_samples}
use Rattle.brr_encode.specs.EncoderParts.{after_target, after_targets, coder_after}
use Rattle.brr_encode.specs.declared.block.Coder.{Coder}

squares_after : (h : ℕ) (coder : Coder) (targets : List ℤ) → (after_targets h coder targets).squares ≡ coder.squares + squares (greedy_samples h coder.last coder.before targets) targets
squares_after h coder [] = omega arith
squares_after h coder (target ∷ targets) = squares_after h (after_target h coder target) targets ∙ omega arith

worst_after : (h : ℕ) (coder : Coder) (targets : List ℤ) → (after_targets h coder targets).worst ≡ max coder.worst (worst (greedy_samples h coder.last coder.before targets) targets)
worst_after h coder [] = omega arith
worst_after h coder (target ∷ targets) = worst_after h (after_target h coder target) targets ∙ omega arith

-- the last two of the two samples before the targets and those that are kept of them
last_after : (h : ℕ) (coder : Coder) (targets : List ℤ)
    → (after_targets h coder targets).last ≡ number_at (coder.before ∷ coder.last ∷ greedy_samples h coder.last coder.before targets) (suc (length targets))
last_after h coder [] = refl
last_after h coder (target ∷ targets) = last_after h (after_target h coder target) targets

before_after : (h : ℕ) (coder : Coder) (targets : List ℤ)
    → (after_targets h coder targets).before ≡ number_at (coder.before ∷ coder.last ∷ greedy_samples h coder.last coder.before targets) (length targets)
before_after h coder [] = refl
before_after h coder (target ∷ targets) = before_after h (after_target h coder target) targets

-- after sixteen targets
pub after_sixteen : (h : ℕ) (p1 p2 : ℤ) (targets : List ℤ) → length targets ≡ 16
    → ((after_targets h (coder_after p1 p2) targets).last ≡ number_at (greedy_samples h p1 p2 targets) 15)
    × ((after_targets h (coder_after p1 p2) targets).before ≡ number_at (greedy_samples h p1 p2 targets) 14)
after_sixteen h p1 p2 targets sixteen = (
  last_after h (coder_after p1 p2) targets ∙ ap (λ (n : ℕ). number_at (p2 ∷ p1 ∷ greedy_samples h p1 p2 targets) (suc n)) sixteen,
  before_after h (coder_after p1 p2) targets ∙ ap (λ (n : ℕ). number_at (p2 ∷ p1 ∷ greedy_samples h p1 p2 targets) n) sixteen,
)

-- the errors of a block under its best header
pub errors_after : (first : Bool) (p1 p2 : ℤ) (targets : List ℤ) (coder : Coder) → coder ≡ after_targets (best_header first p1 p2 targets) (coder_after p1 p2) targets
    → (coder.worst ≡ worst (block_samples first p1 p2 targets) targets) × (coder.squares ≡ squares (block_samples first p1 p2 targets) targets)
errors_after first p1 p2 targets coder is =
    let w = worst_after (best_header first p1 p2 targets) (coder_after p1 p2) targets in
    let s = squares_after (best_header first p1 p2 targets) (coder_after p1 p2) targets in
    (ap (λ (c : Coder). c.worst) is ∙ omega (arith, w), ap (λ (c : Coder). c.squares) is ∙ omega (arith, s))
