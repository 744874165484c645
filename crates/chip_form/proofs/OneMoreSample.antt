-- No samples, and one sample more.
use Rattle.std.proofs.Common.{◌≡◌, ℕ, ◌+◌, List, [], refl, add-one}
use Rattle.chip_form.specs.Samples.{SampleResult, samples, one_more}

pub samples_none : {S : Type 0} (sample : ℕ → S → List ℕ → SampleResult S) (k : ℕ) (s : S) (memory : List ℕ) → samples sample 0 k s memory ≡ record { state = s; memory = memory; frames = []; records = [] }
unfolding samples
samples_none sample k s memory = refl

pub samples_more : {S : Type 0} (sample : ℕ → S → List ℕ → SampleResult S) (n k : ℕ) (s : S) (memory : List ℕ) → samples sample (n + 1) k s memory ≡ one_more sample (k + n) (samples sample n k s memory)
unfolding samples
samples_more sample n k s memory = rw add-one
