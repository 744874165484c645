-- Each mark that a player takes by itself stands where none was given up.
use Rattle.std.proofs.Common.{◌≡◌, ◌∙◌, ◌⊎◌, refl, sym, ap, ℕ, zero, suc, ◌+◌, ◌-◌, ◌*◌, ◌/◌, ◌%◌, ◌<◌, ◌≤◌, true, false, ◌||◌, ◌==◌, nat_le, max, inl, inr, if◌then◌else◌, List, [], ◌∷◌, length, arith}
use Rattle.std.proofs.Math.Nat.{mod-add-div'}
use Rattle.std.proofs.lemmas.Nat.{mod-mul-add}
use Rattle.std.proofs.lemmas.Bool.{cases_Bool}
use Rattle.std.proofs.lemmas.Bool.Decides.{nat_tests}
use Rattle.std.proofs.lemmas.List.Folds.{list_any-append}
use Rattle.cut_form.specs.Checkpoints.{Checkpoint, has_room_for_one, stands_at, with_checkpoint, shared_with_newest}
use Rattle.cut_form.specs.Marks.{room_made, mark_in, mark_at, without_oldest}
use Rattle.player.specs.OwnMarks.{is_own_mark, with_own_mark, marks_after}
use Rattle.player.specs.Heard.{last_multiple, HasRoomForEach}

-- where there is room nothing is given up
room_kept : (most slots : ℕ) (pages : List (List ℕ)) (live : List Checkpoint) → has_room_for_one slots pages live ≡ true
    → room_made most slots pages (record { live = live; gave = 0 }) ≡ record { live = live; gave = 0 }
room_kept zero slots pages live has = refl
room_kept (suc most) slots pages live has =
    ap (λ b. if b then record { live = live; gave = 0 } else room_made most slots pages (record { live = without_oldest live; gave = 1 })) has

marked_in : (slots : ℕ) (pages : List (List ℕ)) (sample : ℕ) (live : List Checkpoint) → has_room_for_one slots pages live ≡ true
    → (mark_in slots pages sample (room_made (length live - 1) slots pages (record { live = live; gave = 0 }))).live ≡ with_checkpoint live sample pages
marked_in slots pages sample live has =
    ap (λ capacity. (mark_in slots pages sample capacity).live) (room_kept (length live - 1) slots pages live has) ∙ rw has refl

is_there : (live : List Checkpoint) (at sample : ℕ) (pages : List (List ℕ)) → stands_at (with_checkpoint live at pages) sample ≡ (stands_at live sample || (at == sample || false))
is_there live at sample pages = list_any-append (λ (c : Checkpoint). c.sample == sample) live (record { sample = at; pages = pages; shared = shared_with_newest live pages } ∷ [])

-- what stood stands, and what is taken stands
module _ (slots : ℕ) (pages : List (List ℕ)) (at : ℕ) (live : List Checkpoint) (has : (stands_at live at ≡ true) ⊎ (has_room_for_one slots pages live ≡ true)) where
  -- where none stands there is room
  has_for : stands_at live at ≡ false → has_room_for_one slots pages live ≡ true
  has_for none = elim has [
    | inl here ↦ cc
    | inr free ↦ free
  ]

  mark_stays : (sample : ℕ) → stands_at live sample ≡ true → stands_at (mark_at slots pages at live).live sample ≡ true
  mark_stays sample stands = elim (cases_Bool (stands_at live at)) [
    | inl here ↦ rw here stands
    | inr none ↦ rw (none, marked_in slots pages at live (has_for none), is_there live at sample pages, stands) refl
  ]

  mark_taken : stands_at (mark_at slots pages at live).live at ≡ true
  mark_taken = elim (cases_Bool (stands_at live at)) [
    | inl here ↦ rw here here
    | inr none ↦ let same : (at == at) ≡ true = grind (arith, nat_tests) in rw (none, marked_in slots pages at live (has_for none), is_there live at at pages, none, same) refl
  ]

module _ (capacity : ℕ) (memory : ℕ → List (List ℕ)) (spacing from : ℕ) (marks : List Checkpoint) where
  own_stays : (at : ℕ) (live : List Checkpoint) (sample : ℕ) → (is_own_mark spacing at ≡ true → (stands_at live at ≡ true) ⊎ (has_room_for_one capacity (memory at) live ≡ true)) → stands_at live sample ≡ true
      → stands_at (with_own_mark capacity memory spacing at live) sample ≡ true
  own_stays at live sample has stands = elim (cases_Bool (is_own_mark spacing at)) [
    | inl own ↦ ap (λ b. stands_at (if b then (mark_at capacity (memory at) at live).live else live) sample) own ∙ mark_stays capacity (memory at) at live (has own) sample stands
    | inr none ↦ ap (λ b. stands_at (if b then (mark_at capacity (memory at) at live).live else live) sample) none ∙ stands
  ]

  pub marks_stay : (count : ℕ) → HasRoomForEach capacity memory spacing from marks count → (sample : ℕ) → stands_at marks sample ≡ true
      → stands_at (marks_after capacity memory spacing from marks count) sample ≡ true
  unfolding marks_after
  marks_stay zero has sample stands = stands
  marks_stay (suc count) has sample stands =
      own_stays (from + suc count) (marks_after capacity memory spacing from marks count) sample (has count (omega arith))
      (marks_stay count (λ k few. has k (omega (arith, few))) sample stands)

  own_stands : (count : ℕ) → HasRoomForEach capacity memory spacing from marks count → (at : ℕ) → from < at → at ≤ from + count → is_own_mark spacing at ≡ true
      → stands_at (marks_after capacity memory spacing from marks count) at ≡ true
  unfolding marks_after
  own_stands zero has at later within own = absurd (omega (arith, later, within))
  own_stands (suc count) has at later within own = elim (cases_Bool (at == from + suc count)) [
    | inl last ↦
        let same : at ≡ from + suc count = grind (arith, nat_tests, last) in
        let live = marks_after capacity memory spacing from marks count in
        let here : is_own_mark spacing (from + suc count) ≡ true = ap (is_own_mark spacing) (sym same) ∙ own in
        ap (λ n. stands_at (with_own_mark capacity memory spacing (from + suc count) live) n) same
        ∙ ap (λ b. stands_at (if b then (mark_at capacity (memory (from + suc count)) (from + suc count) live).live else live) (from + suc count)) here
        ∙ mark_taken capacity (memory (from + suc count)) (from + suc count) live (has count (omega arith) here)
    | inr before ↦
        let other : at ≤ from + count = grind (arith, nat_tests, before, within) in
        own_stays (from + suc count) (marks_after capacity memory spacing from marks count) at (has count (omega arith))
        (own_stands count (λ k few. has k (omega (arith, few))) at later other own)
  ]

-- multiples
multiple_is_own : (spacing at : ℕ) → 0 < spacing → is_own_mark spacing (last_multiple spacing at) ≡ true
multiple_is_own spacing at some =
    let times : last_multiple spacing at ≡ at / spacing * spacing + 0 = omega (arith, mod-add-div' at spacing) in
    let none : last_multiple spacing at % spacing ≡ 0 = ap (λ n. n % spacing) times ∙ mod-mul-add (at / spacing) spacing 0 some in
    grind (arith, nat_tests, none, some)

-- a sample between a multiple and the next has this one as its last
same_multiple : (spacing from at : ℕ) → 0 < spacing → from ≤ at → last_multiple spacing at ≤ from → last_multiple spacing from ≡ last_multiple spacing at
same_multiple spacing from at some before behind =
    let few : at % spacing < spacing = omega (arith, some) in
    let within : from - last_multiple spacing at < spacing = omega (arith, few, before, behind) in
    let parts : from ≡ at / spacing * spacing + (from - last_multiple spacing at) = omega (arith, mod-add-div' at spacing, behind) in
    let rest : from % spacing ≡ from - last_multiple spacing at = ap (λ n. n % spacing) parts ∙ mod-mul-add (at / spacing) spacing (from - last_multiple spacing at) within in
    omega (arith, rest, behind)

pub heard_is_near : (capacity : ℕ) (memory : ℕ → List (List ℕ)) (spacing from : ℕ) (marks : List Checkpoint) (count : ℕ) → HasRoomForEach capacity memory spacing from marks count
    → 0 < spacing → stands_at marks (last_multiple spacing from) ≡ true → (at : ℕ) → from ≤ at → at ≤ from + count
    → (stands_at (marks_after capacity memory spacing from marks count) (last_multiple spacing at) ≡ true) × (at < last_multiple spacing at + spacing)
heard_is_near capacity memory spacing from marks count has some stands at later within =
    let near : at < last_multiple spacing at + spacing = omega (arith, some) in
    elim (cases_Bool (nat_le (last_multiple spacing at) from)) [
      | inl behind ↦
          let up_to : last_multiple spacing at ≤ from = grind (arith, nat_tests, behind) in
          (marks_stay capacity memory spacing from marks count has (last_multiple spacing at) (ap (stands_at marks) (sym (same_multiple spacing from at some later up_to)) ∙ stands), near)
      | inr ahead ↦
          let beyond : from < last_multiple spacing at = grind (arith, nat_tests, ahead) in
          (own_stands capacity memory spacing from marks count has (last_multiple spacing at) beyond (omega (arith, within)) (multiple_is_own spacing at some), near)
    ]

pub heard_from_a_mark : (capacity : ℕ) (memory : ℕ → List (List ℕ)) (spacing from : ℕ) (marks : List Checkpoint) (count : ℕ) → HasRoomForEach capacity memory spacing from marks count
    → 0 < spacing → (mark : ℕ) → stands_at marks mark ≡ true → last_multiple spacing from ≤ mark → mark ≤ from
    → (at : ℕ) → from ≤ at → at ≤ from + count
    → (stands_at (marks_after capacity memory spacing from marks count) (max mark (last_multiple spacing at)) ≡ true)
    × (max mark (last_multiple spacing at) ≤ at) × (at < max mark (last_multiple spacing at) + spacing)
heard_from_a_mark capacity memory spacing from marks count has some mark stands late up_to at later within =
    let near : at < last_multiple spacing at + spacing = omega (arith, some) in
    elim (cases_Bool (nat_le (last_multiple spacing at) mark)) [
      | inl behind ↦
          let before : last_multiple spacing at ≤ mark = grind (arith, nat_tests, behind) in
          let same : max mark (last_multiple spacing at) ≡ mark = omega (arith, before) in (
            ap (stands_at (marks_after capacity memory spacing from marks count)) same ∙ marks_stay capacity memory spacing from marks count has mark stands,
            omega (arith, same, up_to, later),
            omega (arith, same, before, near),
          )
      | inr ahead ↦
          let after : mark < last_multiple spacing at = grind (arith, nat_tests, ahead) in
          let same : max mark (last_multiple spacing at) ≡ last_multiple spacing at = omega (arith, after) in
          let beyond : from < last_multiple spacing at = elim (cases_Bool (nat_le (last_multiple spacing at) from)) [
            | inl low ↦
                let up : last_multiple spacing at ≤ from = grind (arith, nat_tests, low) in
                absurd (omega (arith, late, after, same_multiple spacing from at some later up))
            | inr high ↦ grind (arith, nat_tests, high)
          ] in
          let is_up_to : last_multiple spacing at ≤ at = omega arith in (
            ap (stands_at (marks_after capacity memory spacing from marks count)) same
                ∙ own_stands capacity memory spacing from marks count has (last_multiple spacing at) beyond (omega (arith, within)) (multiple_is_own spacing at some),
            omega (arith, same, is_up_to),
            omega (arith, same, near),
          )
    ]
