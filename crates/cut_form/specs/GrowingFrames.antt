-- The frames of a run, as they grow. `frames_to n` are those until n samples are made.
use Rattle.std.specs.Prelude.{◌≡◌, ℕ, ◌≤◌, List, length, take}

pub record AreOfRun {A : Type 0} (frames_to : ℕ → List A) : Type 0 where
  pub count : (n : ℕ) → length (frames_to n) ≡ n
  pub grows : (k n : ℕ) → k ≤ n → take k (frames_to n) ≡ frames_to k
