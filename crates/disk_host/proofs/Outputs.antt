-- The outputs of a host by their numbers: 0 is the report, 1 the complaint, and the place of a created one is 2 less.
use Rattle.std.proofs.Common.{◌≡◌, ◌≢◌, ◌+◌, ◌-◌, ◌≤◌, ◌<◌, ℕ, zero, suc, Bool, false, true, List, [], ◌∷◌, ◌++◌, length, Option, Some, None, Result, ◌==◌, slice_get, refl, sym, ◌∙◌, ap, subst, arith}
use Rattle.std.proofs.lemmas.List.{length-map}
use Rattle.std.proofs.lemmas.Bool.Decides.{nat_tests}
use Rattle.std.specs.Io.KnownBytes.{Keeps, WriteAppends}
use Rattle.snd_host.specs.Host.{IsOpen}
use Rattle.disk_host.specs.Texts.{Texts}
use Rattle.disk_host.specs.Created.{max_created, is_ended, flags_of, known_or, known_at, known_of}
use Rattle.disk_host.specs.Held.{Reports}
use Rattle.disk_host.specs.declared.host.Created.{Created}
use Rattle.disk_host.proofs.Places.{known_last, known_before, keeps_before}

less : (place : ℕ) → suc (suc place) - 2 ≡ place
less place = omega arith

pub open_place : (flags : List Bool) (file : ℕ) → IsOpen flags file → file ≢ 0 → file ≢ 1 → slice_get flags (file - 2) ≡ Some false
open_place flags zero is_open not_report not_note = absurd (not_report refl)
open_place flags (suc zero) is_open not_report not_note = absurd (not_note refl)
open_place flags (suc (suc place)) is_open not_report not_note = rw (less place) is_open

module _ {F : Type 0} (number : F → ℕ) where
  pub number_at : (places : List (Option (Created F))) (file : ℕ) → file ≢ 0 → file ≢ 1 → known_of number 0 0 1 places file ≡ known_at number 0 places (file - 2)
  number_at places zero not_report not_note = absurd (not_report refl)
  number_at places (suc zero) not_report not_note = absurd (not_note refl)
  number_at places (suc (suc place)) not_report not_note = rw (less place) refl

  pub outputs_kept : (old new : List (Option (Created F))) → ((place : ℕ) → known_at number 0 new place ≡ known_at number 0 old place) → (output : ℕ) → known_of number 0 0 1 new output ≡ known_of number 0 0 1 old output
  outputs_kept old new same zero = refl
  outputs_kept old new same (suc zero) = refl
  outputs_kept old new same (suc (suc place)) = same place

  -- the number of the output that was created last
  pub number_last : (places now : List (Option (Created F))) (output : Created F) (n : ℕ) → now ≡ places ++ Some output ∷ [] → n ≡ length places → known_of number 0 0 1 now (n + 2) ≡ number output.file
  number_last places now output n is long =
      let place : n + 2 - 2 ≡ length places = omega (arith, long) in
      number_at now (n + 2) (λ none. omega (arith, none)) (λ one. omega (arith, one)) ∙ ap (λ (p : ℕ). known_at number 0 now p) place
      ∙ ap (λ (l : List (Option (Created F))). known_at number 0 l (length places)) is ∙ known_last number 0 places output

  pub outputs_but : (old new : List (Option (Created F))) (slot : Option (Created F)) → new ≡ old ++ slot ∷ [] → (output : ℕ) → output ≢ length (flags_of old) + 2 → known_of number 0 0 1 new output ≡ known_of number 0 0 1 old output
  outputs_but old new slot is zero apart = refl
  outputs_but old new slot is (suc zero) apart = refl
  outputs_but old new slot is (suc (suc place)) apart =
      ap (λ (l : List (Option (Created F))). known_at number 0 l place) is ∙ known_before number 0 old slot place (λ same. apart (omega (arith, same, length-map old is_ended)))

-- what the output of a number holds, by the texts of report and complaint and the places of the others
abbrev held_in : {F : Type 0} → Reports F → Texts → List (Option (Created F)) → (output : ℕ) → Option (List ℕ)
held_in files texts places output = known_of files None texts.report texts.complaint places output

pub writes_place : {F X : Type 0} (files : Reports F) (before after : Texts) (piece : List ℕ) (old new : List (Option (Created F))) (result : Result ℕ X) (file place : ℕ) → file ≢ 0 → file ≢ 1 →
    place ≡ file - 2 → WriteAppends (known_at files None old place) (known_at files None new place) result piece → ((other : ℕ) → other ≢ place → known_at files None new other ≡ known_at files None old other) →
    after ≡ before → WriteAppends (held_in files before old file) (held_in files after new file) result piece × ((other : ℕ) → other ≢ file → held_in files after new other ≡ held_in files before old other)
writes_place files before after piece old new result zero place not_report not_note at wrote others same = absurd (not_report refl)
writes_place files before after piece old new result (suc zero) place not_report not_note at wrote others same = absurd (not_note refl)
writes_place {F} files before after piece old new result (suc (suc p)) place not_report not_note at wrote others same = (
  subst (λ (n : ℕ). WriteAppends (known_at files None old n) (known_at files None new n) result piece) (at ∙ less p) wrote,
  by,
)
  where
    by : (other : ℕ) → other ≢ suc (suc p) → held_in files after new other ≡ held_in files before old other
    by zero apart = ap (λ (t : Texts). t.report) same
    by (suc zero) apart = ap (λ (t : Texts). t.complaint) same
    by (suc (suc other)) apart = others other (λ is. apart (ap (λ (n : ℕ). suc (suc n)) (is ∙ at ∙ less p)))

-- a write to the report
pub writes_report : {F X : Type 0} (files : Reports F) (before after : Texts) (piece : List ℕ) (places : List (Option (Created F))) (result : Result ℕ X) (file : ℕ) → file ≡ 0 → WriteAppends before.report after.report result piece →
    after.complaint ≡ before.complaint → WriteAppends (held_in files before places file) (held_in files after places file) result piece × ((other : ℕ) → other ≢ file → held_in files after places other ≡ held_in files before places other)
writes_report {F} files before after piece places result zero is wrote same = (wrote, by)
  where
    by : (other : ℕ) → other ≢ 0 → held_in files after places other ≡ held_in files before places other
    by zero apart = absurd (apart refl)
    by (suc zero) apart = same
    by (suc (suc other)) apart = refl
writes_report files before after piece places result (suc file) is wrote same = absurd (omega (arith, is))

-- and to the complaint
pub writes_complaint : {F X : Type 0} (files : Reports F) (before after : Texts) (piece : List ℕ) (places : List (Option (Created F))) (result : Result ℕ X) (file : ℕ) → file ≡ 1 → WriteAppends before.complaint after.complaint result piece →
    after.report ≡ before.report → WriteAppends (held_in files before places file) (held_in files after places file) result piece × ((other : ℕ) → other ≢ file → held_in files after places other ≡ held_in files before places other)
writes_complaint files before after piece places result zero is wrote same = absurd (omega (arith, is))
writes_complaint {F} files before after piece places result (suc zero) is wrote same = (wrote, by)
  where
    by : (other : ℕ) → other ≢ 1 → held_in files after places other ≡ held_in files before places other
    by zero apart = same
    by (suc zero) apart = absurd (apart refl)
    by (suc (suc other)) apart = refl
writes_complaint files before after piece places result (suc (suc file)) is wrote same = absurd (omega (arith, is))

keeps_equal : (known now : Option (List ℕ)) → now ≡ known → Keeps known now
keeps_equal None now same = tt
keeps_equal (Some bytes) now same = rw (same) refl

-- one output more
pub holds_stay : {F : Type 0} (files : Reports F) (before after : Texts) (old new : List (Option (Created F))) (slot : Option (Created F)) → new ≡ old ++ slot ∷ [] → after ≡ before → (output : ℕ) → Keeps (held_in files before old output) (held_in files after new output)
holds_stay files before after old new slot is same zero = keeps_equal _ _ (ap (λ (t : Texts). t.report) same)
holds_stay files before after old new slot is same (suc zero) = keeps_equal _ _ (ap (λ (t : Texts). t.complaint) same)
holds_stay files before after old new slot is same (suc (suc place)) = rw (is) (keeps_before files old slot place)

-- an output whose end was tried
pub holds_on : {F : Type 0} (files : Reports F) (before after : Texts) (old new : List (Option (Created F))) → ((place : ℕ) → Keeps (known_at files None old place) (known_at files None new place)) → after ≡ before →
    (output : ℕ) → Keeps (held_in files before old output) (held_in files after new output)
holds_on files before after old new keeps same zero = keeps_equal _ _ (ap (λ (t : Texts). t.report) same)
holds_on files before after old new keeps same (suc zero) = keeps_equal _ _ (ap (λ (t : Texts). t.complaint) same)
holds_on files before after old new keeps same (suc (suc place)) = keeps place

-- a list of places that isn't full
pub not_full : {F : Type 0} (places : List (Option (Created F))) (full : Bool) → length places ≤ 256 → full ≡ (length places == 256) → full ≡ false → max_created ≤ length (flags_of places) → ⊥
not_full places full few is not_yet most =
    let all : length places ≡ 256 = omega (arith, few, most, length-map places is_ended) in
    let both : true ≡ false = sym (is ∙ ap (λ (n : ℕ). n == 256) all) ∙ not_yet in
    absurd (cc)

-- a list of places that isn't full has one more
pub room_left : (n : ℕ) (full : Bool) → n ≤ 256 → full ≡ (n == 256) → full ≡ false → n < max_created
room_left n full few is not_yet = grind (arith, nat_tests)

-- nothing changed
pub holds_same : {F : Type 0} (files : Reports F) (before after : Texts) (old new : List (Option (Created F))) → new ≡ old → after ≡ before → (output : ℕ) → Keeps (held_in files before old output) (held_in files after new output)
holds_same files before after old new same_places same_texts output = keeps_equal _ _ (λ i. held_in files (same_texts i) (same_places i) output)

pub keeps_input : {F : Type 0} (left : Reports F) (old new : Option F) → new ≡ old → Keeps (known_or left None old) (known_or left None new)
keeps_input left old new same = keeps_equal _ _ (ap (λ o. known_or left None o) same)

pub same_outputs : {F : Type 0} (number : F → ℕ) (old new : List (Option (Created F))) → new ≡ old → (output : ℕ) → known_of number 0 0 1 new output ≡ known_of number 0 0 1 old output
same_outputs number old new same output = λ i. known_of number 0 0 1 (same i) output

-- a write that leaves the places
pub on_places : {F X : Type 0} (files : Reports F) (before after : Texts) (piece : List ℕ) (places now : List (Option (Created F))) (result : Result ℕ X) (file : ℕ) → now ≡ places →
    WriteAppends (held_in files before places file) (held_in files after places file) result piece × ((other : ℕ) → other ≢ file → held_in files after places other ≡ held_in files before places other) →
    WriteAppends (held_in files before places file) (held_in files after now file) result piece × ((other : ℕ) → other ≢ file → held_in files after now other ≡ held_in files before places other)
on_places {F} files before after piece places now result file same wrote =
    subst (λ (l : List (Option (Created F))). WriteAppends (held_in files before places file) (held_in files after l file) result piece × ((other : ℕ) → other ≢ file → held_in files after l other ≡ held_in files before places other)) (sym same) wrote

-- a number that isn't that of the complaint
pub other_number : (n : ℕ) → n ≢ 1 → (n == 1) ≡ false
other_number n other = grind (arith)
