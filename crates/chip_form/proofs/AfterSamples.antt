-- How laws on n samples follow from facts on one: P j says what holds of the state and the memory after j samples.
use Rattle.std.proofs.Common.{◌≡◌, ℕ, zero, suc, ◌+◌, ◌<◌, ◌≤◌, List, refl, arith}
use Rattle.aram_core.specs.Memory.{with_byte}
use Rattle.chip_form.specs.Limits.{max_samples_of_batch}
use Rattle.chip_form.specs.Samples.{SampleResult, samples}

-- what a sample keeps, n samples keep
pub samples_keep : {S : Type 0} (sample : ℕ → S → List ℕ → SampleResult S) (P : ℕ → S → List ℕ → Type 0)
    → ((j k : ℕ) (s : S) (memory : List ℕ) → j < max_samples_of_batch → P j s memory → P (j + 1) (sample k s memory).state (sample k s memory).memory)
    → (n k : ℕ) (s : S) (memory : List ℕ) → n ≤ max_samples_of_batch → P 0 s memory → P n (samples sample n k s memory).state (samples sample n k s memory).memory
unfolding samples
samples_keep sample P next zero k s memory few start = start
samples_keep sample P next (suc n) k s memory few start =
    let more : n + 1 ≡ suc n = omega arith in
    let now = samples sample n k s memory in
    rw more at (next n (k + n) now.state now.memory (omega arith) (samples_keep sample P next n k s memory (omega arith) start))

-- a byte that no sample reads, n samples don't read
pub samples_apart : {S : Type 0} (sample : ℕ → S → List ℕ → SampleResult S) (P : ℕ → S → List ℕ → Type 0) (at value : ℕ)
    → ((j k : ℕ) (s : S) (memory : List ℕ) → j < max_samples_of_batch → P j s memory → P (j + 1) (sample k s memory).state (sample k s memory).memory)
    → ((j k : ℕ) (s : S) (memory : List ℕ) → j < max_samples_of_batch → P j s memory
    → sample k s (with_byte memory at value) ≡ record (sample k s memory) { memory = with_byte (sample k s memory).memory at value })
    → (n k : ℕ) (s : S) (memory : List ℕ) → n ≤ max_samples_of_batch → P 0 s memory
    → samples sample n k s (with_byte memory at value) ≡ record (samples sample n k s memory) { memory = with_byte (samples sample n k s memory).memory at value }
unfolding samples
samples_apart sample P at value next apart zero k s memory few start = refl
samples_apart sample P at value next apart (suc n) k s memory few start =
    let now = samples sample n k s memory in
    rw (
      samples_apart sample P at value next apart n k s memory (omega arith) start,
      apart n (k + n) now.state now.memory (omega arith) (samples_keep sample P next n k s memory (omega arith) start),
    ) refl
