-- What a chip keeps to, by the reach taken before its samples. S is the type of its states.
use Rattle.std.specs.Prelude.{◌≡◌, ℕ, ◌≤◌, List, Bool, true, false}
use Rattle.std.specs.FinSet as set
use Rattle.aram_core.specs.Memory.{byte_at, with_byte}
use Rattle.aram_core.specs.Pages.{page_of}
use Rattle.chip_form.specs.declared.pages.ReachPages.{ReachPages}
use Rattle.chip_form.specs.Limits.{max_samples_of_batch}
use Rattle.chip_form.specs.Samples.{SampleResult, samples}

-- the samples of a batch change memory on write pages alone
abbrev pub WritesInside : {S : Type 0} → (ℕ → S → List ℕ → SampleResult S) → (S → List ℕ → ReachPages) → (S → Bool) → Type 0
WritesInside {S = S} sample reach is_valid =
    (n k : ℕ) (s : S) (memory : List ℕ) (at : ℕ) → n ≤ max_samples_of_batch → is_valid s ≡ true
    → set.contains (reach s memory).write_pages (page_of at) ≡ false
    → byte_at (samples sample n k s memory).memory at ≡ byte_at memory at

-- Where the reach isn't entangled, a byte written outside the read pages changes neither the state that the samples of a batch leave nor their results,
-- and of the memory after them that byte alone.
abbrev pub ReadsInside : {S : Type 0} → (ℕ → S → List ℕ → SampleResult S) → (S → List ℕ → ReachPages) → (S → Bool) → Type 0
ReadsInside {S = S} sample reach is_valid =
    (n k : ℕ) (s : S) (memory : List ℕ) (at value : ℕ) → n ≤ max_samples_of_batch → is_valid s ≡ true
    → (reach s memory).entangled ≡ false
    → set.contains (reach s memory).read_pages (page_of at) ≡ false
    → samples sample n k s (with_byte memory at value)
    ≡ record (samples sample n k s memory) { memory = with_byte (samples sample n k s memory).memory at value }

-- where the premise holds, a byte written outside the read pages leaves the reach as it is
abbrev pub ReachStays : {S : Type 0} → (S → List ℕ → ReachPages) → (premise : S → List ℕ → Bool) → Type 0
ReachStays {S = S} reach premise =
    (s : S) (memory : List ℕ) (at value : ℕ) → premise s memory ≡ true
    → set.contains (reach s memory).read_pages (page_of at) ≡ false
    → reach s (with_byte memory at value) ≡ reach s memory

-- where the premise holds, n samples change no register but those of their results
abbrev pub RegistersStay : {S : Type 0} → (ℕ → S → List ℕ → SampleResult S) → (register_read : S → ℕ → ℕ) → (is_result : ℕ → Bool)
    → (premise : ℕ → S → Bool) → Type 0
RegistersStay {S = S} sample register_read is_result premise =
    (n k : ℕ) (s : S) (memory : List ℕ) (address : ℕ) → premise n s ≡ true → is_result address ≡ false
    → register_read (samples sample n k s memory).state address ≡ register_read s address
