-- Some samples more that are pending.
use Rattle.std.proofs.Common.{◌≡◌, ℕ, ◌+◌, ◌*◌, refl, arith, append_assoc}
use Rattle.std.proofs.lemmas.List.{append-nil}
use Rattle.std.proofs.lemmas.List.Elements.{filter-append}
use Rattle.chip_form.proofs.OneMoreSample.{samples_none, samples_more}
use Rattle.chip_form.specs.ChipMeaning.{ChipMeaning}
use Rattle.lag_bus.specs.Deferred.{Deferred, deferred_with_sample, deferred_with_samples}

pub deferred_with_samples-none : {S : Type 0} (chip : ChipMeaning S) (deferred : Deferred S) → deferred_with_samples chip deferred 0 ≡ deferred
deferred_with_samples-none chip deferred =
    let due : deferred.due + 0 ≡ deferred.due = omega arith in
    let pending : deferred.pending + 0 ≡ deferred.pending = omega arith in
    let frames : deferred.frames_used + 0 ≡ deferred.frames_used = omega arith in
    let records : deferred.records_used + 8 * 0 ≡ deferred.records_used = omega arith in
    simp (samples_none, append-nil, due, pending, frames, records) refl

pub deferred_with_samples-more : {S : Type 0} (chip : ChipMeaning S) (deferred : Deferred S) (fallen : ℕ) → deferred_with_sample chip (deferred_with_samples chip deferred fallen) ≡ deferred_with_samples chip deferred (fallen + 1)
deferred_with_samples-more chip deferred fallen =
    let due : deferred.due + fallen + 1 ≡ deferred.due + (fallen + 1) = omega arith in
    let pending : deferred.pending + fallen + 1 ≡ deferred.pending + (fallen + 1) = omega arith in
    let frames : deferred.frames_used + fallen + 1 ≡ deferred.frames_used + (fallen + 1) = omega arith in
    let records : deferred.records_used + 8 * fallen + 8 ≡ deferred.records_used + 8 * (fallen + 1) = omega arith in
    simp (samples_more, filter-append, append_assoc, due, pending, frames, records) refl
