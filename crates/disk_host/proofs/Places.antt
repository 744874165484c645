-- The places of created outputs once one of them was written or its end was tried.
use Rattle.std.proofs.Common.{◌≡◌, ◌≢◌, ◌<◌, ℕ, zero, suc, Bool, true, false, List, [], ◌∷◌, ◌++◌, length, get_or, set, slice_get, slice_set, Option, Some, None, refl, sym, ◌∙◌, ap}
use Rattle.std.proofs.lemmas.Option.{get_or_from_slice_get, slice_get-get_or}
use Rattle.std.proofs.lemmas.List.{map-set, set-get_or}
use Rattle.std.specs.Io.KnownBytes.{Keeps}
use Rattle.disk_host.specs.Created.{is_ended, flags_of, known_or, known_at}
use Rattle.disk_host.specs.declared.host.Created.{Created}

-- the output that was taken from its place stood there
pub here : {F : Type 0} (places : List (Option (Created F))) (place : ℕ) (slot taken : Option (Created F)) (output : Created F) →
    place < length places → slot ≡ get_or places place slot → taken ≡ slot → taken ≡ Some output → slice_get places place ≡ Some (Some output)
here places place slot taken output within is same some =
    slice_get-get_or places place slot within ∙ ap (λ (o : Option (Created _)). Some o) (sym is ∙ sym same ∙ some)

pub flags_set : {F : Type 0} (places : List (Option (Created F))) (place : ℕ) (output : Created F) → flags_of (set places place (Some output)) ≡ slice_set (flags_of places) place output.ended
flags_set places place output = map-set is_ended places place (Some output)

pub flags_kept : {F : Type 0} (places : List (Option (Created F))) (place : ℕ) (before after : Created F) → slice_get places place ≡ Some (Some before) → after.ended ≡ before.ended →
    flags_of (set places place (Some after)) ≡ flags_of places
flags_kept [] place before after is same = refl
flags_kept (p ∷ places) zero before after is same = ap (λ (b : Bool). b ∷ flags_of places) (same ∙ sym (ap (known_or is_ended true) is))
flags_kept (p ∷ places) (suc place) before after is same = ap (λ (l : List Bool). is_ended p ∷ l) (flags_kept places place before after is same)

-- a flag that isn't set is not set once more
pub unset_again : (flags : List Bool) (place : ℕ) (ended : Bool) → slice_get flags place ≡ Some false → ended ≡ false → slice_set flags place ended ≡ flags
unset_again flags place ended open_yet is =
    ap (λ (b : Bool). set flags place b) (is ∙ sym (get_or_from_slice_get flags place false false open_yet)) ∙ set-get_or flags place false

module _ {F T : Type 0} (reports : F → T) (otherwise : T) where
  abbrev known : Option (Option (Created F)) → T
  known = known_or (known_or (λ output. reports output.file) otherwise) otherwise

  pub known_here : (places : List (Option (Created F))) (place : ℕ) (output : Created F) → slice_get places place ≡ Some (Some output) → known_at reports otherwise places place ≡ reports output.file
  known_here places place output is = ap known is

  pub known_after : (places : List (Option (Created F))) (place : ℕ) (before after : Created F) → slice_get places place ≡ Some (Some before) →
      known_at reports otherwise (set places place (Some after)) place ≡ reports after.file
  known_after [] place before after is = absurd (cc)
  known_after (p ∷ places) zero before after is = refl
  known_after (p ∷ places) (suc place) before after is = known_after places place before after is

  pub known_other : (places : List (Option (Created F))) (place : ℕ) (slot : Option (Created F)) (other : ℕ) → other ≢ place →
      known_at reports otherwise (set places place slot) other ≡ known_at reports otherwise places other
  known_other [] place slot other apart = refl
  known_other (p ∷ places) zero slot zero apart = absurd (apart refl)
  known_other (p ∷ places) zero slot (suc other) apart = refl
  known_other (p ∷ places) (suc place) slot zero apart = refl
  known_other (p ∷ places) (suc place) slot (suc other) apart = known_other places place slot other (λ same. apart (ap suc same))

  pub known_kept : (places : List (Option (Created F))) (place : ℕ) (before after : Created F) → slice_get places place ≡ Some (Some before) → reports after.file ≡ reports before.file → (other : ℕ) →
      known_at reports otherwise (set places place (Some after)) other ≡ known_at reports otherwise places other
  known_kept [] place before after is same other = refl
  known_kept (p ∷ places) zero before after is same zero = same ∙ sym (ap known is)
  known_kept (p ∷ places) zero before after is same (suc other) = refl
  known_kept (p ∷ places) (suc place) before after is same zero = refl
  known_kept (p ∷ places) (suc place) before after is same (suc other) = known_kept places place before after is same other

  pub known_last : (places : List (Option (Created F))) (output : Created F) → known_at reports otherwise (places ++ Some output ∷ []) (length places) ≡ reports output.file
  known_last [] output = refl
  known_last (p ∷ places) output = known_last places output

  pub known_before : (places : List (Option (Created F))) (slot : Option (Created F)) (other : ℕ) → other ≢ length places → known_at reports otherwise (places ++ slot ∷ []) other ≡ known_at reports otherwise places other
  known_before [] slot zero apart = absurd (apart refl)
  known_before [] slot (suc other) apart = refl
  known_before (p ∷ places) slot zero apart = refl
  known_before (p ∷ places) slot (suc other) apart = known_before places slot other (λ same. apart (ap suc same))

pub keeps_same : (known : Option (List ℕ)) → Keeps known known
keeps_same None = tt
keeps_same (Some bytes) = refl

pub keeps_at : {F : Type 0} (held : F → Option (List ℕ)) (places : List (Option (Created F))) (place : ℕ) (before after : Created F) →
    slice_get places place ≡ Some (Some before) → Keeps (held before.file) (held after.file) → (other : ℕ) →
    Keeps (known_at held None places other) (known_at held None (set places place (Some after)) other)
keeps_at held [] place before after is keeps other = absurd (cc)
keeps_at held (p ∷ places) zero before after is keeps zero = rw (known_here held None (p ∷ places) zero before is) keeps
keeps_at held (p ∷ places) zero before after is keeps (suc other) = keeps_same (known_at held None places other)
keeps_at held (p ∷ places) (suc place) before after is keeps zero = keeps_same (known_at held None (p ∷ places) zero)
keeps_at held (p ∷ places) (suc place) before after is keeps (suc other) = keeps_at held places place before after is keeps other

pub keeps_before : {F : Type 0} (held : F → Option (List ℕ)) (places : List (Option (Created F))) (slot : Option (Created F)) (other : ℕ) →
    Keeps (known_at held None places other) (known_at held None (places ++ slot ∷ []) other)
keeps_before held [] slot other = tt
keeps_before held (p ∷ places) slot zero = keeps_same (known_at held None (p ∷ places) zero)
keeps_before held (p ∷ places) slot (suc other) = keeps_before held places slot other
