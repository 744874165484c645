-- Samples to come read and write where the reach before the pending ones says.
use Rattle.std.proofs.Common.{◌≡◌, ℕ, zero, suc, ◌+◌, ◌≤◌, ◌++◌, List, refl, sym, ap, ◌∙◌, arith, append_assoc}
use Rattle.std.proofs.lemmas.Bool.{or_parts}
use Rattle.std.proofs.lemmas.List.{append-nil, append_cancel_left}
use Rattle.aram_core.specs.Memory.{byte_at, with_byte}
use Rattle.chip_form.specs.Samples.{SampleResult, SamplesResult, samples, one_more}
use Rattle.chip_form.proofs.OneMoreSample.{samples_none, samples_more}
use Rattle.chip_form.specs.ChipMeaning.{ChipMeaning}
use Rattle.chip_form.specs.ChipLaws.{IsLawfulChip}
use Rattle.lag_bus.specs.Deferred.{AreWritesWithin, AreReadsWithin}
use Rattle.lag_bus.specs.Held.{Held, IsHeld, pending_samples, deferred_of}

-- what some samples leave and give, and more samples after them
abbrev and_then : {S : Type 0} → SamplesResult S → SamplesResult S → SamplesResult S
and_then some more = record { state = more.state; memory = more.memory; frames = some.frames ++ more.frames; records = some.records ++ more.records }

-- n samples after p samples
both_then : {S : Type 0} (sample : ℕ → S → List ℕ → SampleResult S) (n p k : ℕ) (s : S) (memory : List ℕ)
    → (let before = samples sample p k s memory in samples sample (n + p) k s memory ≡ and_then before (samples sample n (k + p) before.state before.memory))
both_then sample zero p k s memory =
    let e : 0 + p ≡ p = omega arith in
    ap (λ (j : ℕ). samples sample j k s memory) e ∙ simp (samples_none, append-nil) refl
both_then {S} sample (suc n) p k s memory =
    let before = samples sample p k s memory in
    let more = samples sample n (k + p) before.state before.memory in
    let rest = both_then sample n p k s memory in
    let e : suc n + p ≡ n + p + 1 = omega arith in
    let one : suc n ≡ n + 1 = omega arith in
    let number : k + (n + p) ≡ k + p + n = omega arith in
    let last : one_more sample (k + p + n) (and_then before more) ≡ and_then before (one_more sample (k + p + n) more) = simp append_assoc refl in
    ap (λ (j : ℕ). samples sample j k s memory) e
    ∙ samples_more sample (n + p) k s memory
    ∙ (λ i. one_more sample (number i) (rest i))
    ∙ last
    ∙ ap (λ (r : SamplesResult S). and_then before r) (sym (samples_more sample n (k + p) before.state before.memory))
    ∙ ap (λ (j : ℕ). and_then before (samples sample j (k + p) before.state before.memory)) (sym one)

module _ {S : Type 0} {chip : ChipMeaning S} (laws : IsLawfulChip chip) {h : Held S} (is : IsHeld chip h) where
  pub late_writes : AreWritesWithin chip (deferred_of chip h).reach (deferred_of chip h).pending (deferred_of chip h).due (deferred_of chip h).chip (deferred_of chip h).memory
  late_writes fallen at few free =
      let both = both_then chip.one_sample fallen h.pending h.number h.state h.memory in
      sym (ap (λ (r : SamplesResult S). byte_at r.memory at) both)
      ∙ laws.writes_inside (fallen + h.pending) h.number h.state h.memory at (omega arith) is.is_valid free
      ∙ sym (laws.writes_inside h.pending h.number h.state h.memory at is.pending is.is_valid free)

  pub late_reads : AreReadsWithin chip (deferred_of chip h).reach (deferred_of chip h).pending (deferred_of chip h).due (deferred_of chip h).chip (deferred_of chip h).memory
  late_reads fallen at value few free =
      let put = with_byte h.memory at value in
      let before : SamplesResult S = pending_samples chip h in
      let more : SamplesResult S = samples chip.one_sample fallen (h.number + h.pending) before.state before.memory in
      let after : SamplesResult S = samples chip.one_sample fallen (h.number + h.pending) before.state (with_byte before.memory at value) in
      let apart = or_parts _ _ free in
      let law : (n : ℕ) → n ≤ 64 → samples chip.one_sample n h.number h.state put
      ≡ record (samples chip.one_sample n h.number h.state h.memory) { memory = with_byte (samples chip.one_sample n h.number h.state h.memory).memory at value } =
      λ n most. laws.reads_inside n h.number h.state h.memory at value most is.is_valid apart.0 apart.1 in
      let both = both_then chip.one_sample fallen h.pending h.number h.state h.memory in
      let both_put = both_then chip.one_sample fallen h.pending h.number h.state put in
      let first = law h.pending is.pending in
      let same : and_then before after ≡ record (and_then before more) { memory = with_byte more.memory at value } =
      sym (ap (λ (r : SamplesResult S). and_then r (samples chip.one_sample fallen (h.number + h.pending) r.state r.memory)) first)
      ∙ sym both_put
      ∙ law (fallen + h.pending) (omega arith)
      ∙ ap (λ (r : SamplesResult S). record r { memory = with_byte r.memory at value }) both in
      let state = ap (λ (r : SamplesResult S). r.state) same in
      let memory = ap (λ (r : SamplesResult S). r.memory) same in
      let frames = append_cancel_left before.frames after.frames more.frames (ap (λ (r : SamplesResult S). r.frames) same) in
      let records = append_cancel_left before.records after.records more.records (ap (λ (r : SamplesResult S). r.records) same) in
      λ i. record { state = state i; memory = memory i; frames = frames i; records = records i }
