-- The groups of one block, as a voice comes to them.
use Rattle.std.proofs.Common.{◌≡◌, ◌≢◌, ℕ, zero, suc, ◌+◌, ◌-◌, ◌*◌, ◌/◌, ◌<◌, ◌≤◌, ◌==◌, nat_le, nat_lt, ◌&&◌, List, ℤ, Bool, true, false, take, refl, ap, sym, ◌∙◌, arith}
use Rattle.std.proofs.lemmas.Bool.{and_right}
use Rattle.std.proofs.lemmas.Bool.Decides.{nat_tests}
use Rattle.aram_core.specs.Memory.{byte_at}
use Rattle.brr_decode.specs.Kept.{with_group}
use Rattle.brr_decode.specs.CachedBlocks.{byte_of, with_groups}
use Rattle.voice_unit.specs.Voice.{is_silencing}
use Rattle.voice_batch.specs.Row.{IsGroup, next_place, place_after, kept_row, groups_left, further, last_of, is_end, is_read_in, ends_in}
use Rattle.voice_batch.specs.declared.row.Place.{Place}
use Rattle.voice_batch.proofs.EndBits.{bit_if, marked, marked-more}
use Rattle.voice_batch.proofs.RowOfVoice.{kept_row-zero, kept_row-more, place_after-zero, place_after-more}

-- the groups after some, and after them
module _ (memory : List ℕ) (loop_word : ℕ) (first : Place) where
  pub place_after-add : (d e : ℕ) → place_after memory loop_word first (d + e) ≡ place_after memory loop_word (place_after memory loop_word first d) e
  place_after-add d zero = let same : d + 0 ≡ d = omega arith in rw same (sym (place_after-zero memory loop_word (place_after memory loop_word first d)))
  place_after-add d (suc e) =
      let next : d + suc e ≡ d + e + 1 = omega arith in
      let one : suc e ≡ e + 1 = omega arith in
      rw (next, one) (place_after-more memory loop_word first (d + e) ∙ ap (next_place memory loop_word) (place_after-add d e)
      ∙ sym (place_after-more memory loop_word (place_after memory loop_word first d) e))

  pub kept_row-add : (samples : List ℤ) (d e : ℕ)
      → kept_row memory loop_word first samples (d + e) ≡ kept_row memory loop_word (place_after memory loop_word first d) (kept_row memory loop_word first samples d) e
  kept_row-add samples d zero = let same : d + 0 ≡ d = omega arith in rw same (sym (kept_row-zero memory loop_word (place_after memory loop_word first d) (kept_row memory loop_word first samples d)))
  kept_row-add samples d (suc e) =
      let next : d + suc e ≡ d + e + 1 = omega arith in
      let one : suc e ≡ e + 1 = omega arith in
      let with_next = λ (s : List ℤ) (at : Place). with_group s (byte_at memory at.block) (byte_at memory (at.block + at.offset)) (byte_at memory (at.block + at.offset + 1)) in
      rw (next, one) (kept_row-more memory loop_word first samples (d + e)
      ∙ (λ i. with_next (kept_row-add samples d e i) (place_after-add d e i))
      ∙ sym (kept_row-more memory loop_word (place_after memory loop_word first d) (kept_row memory loop_word first samples d) e))

-- a group that isn't the last of its block, and the next one
next-further : (memory : List ℕ) (loop_word : ℕ) (at : Place) (i : ℕ) → i + 1 < groups_left at → next_place memory loop_word (further at i) ≡ further at (i + 1)
next-further memory loop_word at i few =
    let other : at.offset + 2 * i ≢ 7 = λ is. absurd (omega (arith, few, is)) in
    let test : (at.offset + 2 * i == 7) ≡ false = grind (arith, nat_tests, other) in
    let on : at.offset + 2 * i + 2 ≡ at.offset + 2 * (i + 1) = omega arith in
    rw test (ap (λ (offset : ℕ). record { block = at.block; offset = offset }) on)

module _ (memory : List ℕ) (loop_word : ℕ) (at : Place) (group : IsGroup at) where
  pub placed : (i : ℕ) → i < groups_left at → place_after memory loop_word at i ≡ further at i
  placed zero few =
      let none : at.offset ≡ at.offset + 2 * 0 = omega arith in
      place_after-zero memory loop_word at ∙ ap (λ (offset : ℕ). record { block = at.block; offset = offset }) none
  placed (suc i) few =
      let one : suc i ≡ i + 1 = omega arith in
      rw one (place_after-more memory loop_word at i ∙ ap (next_place memory loop_word) (placed i (omega (arith, few))) ∙ next-further memory loop_word at i (omega (arith, few)))

  pub left_some : 0 < groups_left at
  left_some = omega (arith, group.within)

  -- after the last one
  pub placed_after : place_after memory loop_word at (groups_left at) ≡ next_place memory loop_word (last_of at.block)
  placed_after =
      let last : groups_left at ≡ groups_left at - 1 + 1 = omega (arith, left_some) in
      let seven : at.offset + 2 * (groups_left at - 1) ≡ 7 = omega (arith, group.within, group.odd) in
      ap (place_after memory loop_word at) last ∙ place_after-more memory loop_word at (groups_left at - 1)
      ∙ ap (next_place memory loop_word) (placed (groups_left at - 1) (omega (arith, left_some)) ∙ ap (λ (offset : ℕ). record { block = at.block; offset = offset }) seven)

  -- their row, by the digits of the block
  pub row_of_block : (digits : ℕ) → ((k : ℕ) → k < 8 → byte_of digits k ≡ byte_at memory (at.block + k + 1)) → (samples : List ℤ) (d : ℕ) → d ≤ groups_left at
      → with_groups samples (byte_at memory at.block) digits (at.offset / 2) d ≡ kept_row memory loop_word at samples d
  unfolding with_groups
  row_of_block digits bytes samples zero few = sym (kept_row-zero memory loop_word at samples)
  row_of_block digits bytes samples (suc d) few =
      let one : suc d ≡ d + 1 = omega arith in
      let k : ℕ = 2 * (at.offset / 2 + d) in
      let here : at.block + k + 1 ≡ at.block + (at.offset + 2 * d) = omega (arith, group.odd) in
      let after : at.block + (k + 1) + 1 ≡ at.block + (at.offset + 2 * d) + 1 = omega (arith, group.odd) in
      let high : byte_of digits k ≡ byte_at memory (at.block + (at.offset + 2 * d)) = bytes k (omega (arith, few, group.within)) ∙ ap (byte_at memory) here in
      let low : byte_of digits (k + 1) ≡ byte_at memory (at.block + (at.offset + 2 * d) + 1) = bytes (k + 1) (omega (arith, few, group.within)) ∙ ap (byte_at memory) after in
      let with_next = λ (s : List ℤ) (p : Place). with_group s (byte_at memory p.block) (byte_at memory (p.block + p.offset)) (byte_at memory (p.block + p.offset + 1)) in
      (λ i. with_group (row_of_block digits bytes samples d (omega (arith, few)) i) (byte_at memory at.block) (high i) (low i))
      ∙ ap (with_next (kept_row memory loop_word at samples d)) (sym (placed d (omega (arith, few))))
      ∙ rw one (sym (kept_row-more memory loop_word at samples d))

-- while a voice is in its block no block ends
pub marked-through : (memory : List ℕ) (loop_word : ℕ) (first at : Place) (phases : ℕ → ℕ) (v d j e : ℕ) → IsGroup at → at ≡ place_after memory loop_word first d → e < groups_left at
    → bit_if (marked memory loop_word first phases v (d + e) j) v ≡ bit_if (marked memory loop_word first phases v d j) v
marked-through memory loop_word first at phases v d j zero group there few = let same : d + 0 ≡ d = omega arith in rw same refl
marked-through memory loop_word first at phases v d j (suc e) group there few =
    let next : d + suc e ≡ d + e + 1 = omega arith in
    let before = marked-through memory loop_word first at phases v d j e group there (omega (arith, few)) in
    let more = marked-more memory loop_word first phases v (d + e) j in
    let place : place_after memory loop_word first (d + e) ≡ further at e =
    place_after-add memory loop_word first d e ∙ ap (λ (p : Place). place_after memory loop_word p e) (sym there) ∙ placed memory loop_word at group e (omega (arith, few)) in
    let other : at.offset + 2 * e ≢ 7 = λ is. absurd (omega (arith, few, is)) in
    let test : (at.offset + 2 * e == 7) ≡ false = grind (arith, nat_tests, other) in
    let ended : is_end memory (place_after memory loop_word first (d + e)) ≡ false = rw (place, test) refl in
    let none : (is_read_in phases (d + e) j && is_end memory (place_after memory loop_word first (d + e))) ≡ false = rw ended (and_right (is_read_in phases (d + e) j) false refl) in
    let kept = rw none at more in
    rw next (sym kept ∙ omega (arith, before))

-- a voice that has read so many groups, and reads the rest of the block that it is in
module _ (memory : List ℕ) (loop_word : ℕ) (first : Place) (d : ℕ) (at : Place) (there : at ≡ place_after memory loop_word first d) (group : IsGroup at)
    (left : ℕ) (all : left ≡ groups_left at) where
  pub within_block : (e : ℕ) → e < left → place_after memory loop_word first (d + e) ≡ further at e
  within_block e few =
      place_after-add memory loop_word first d e ∙ ap (λ (p : Place). place_after memory loop_word p e) (sym there) ∙ placed memory loop_word at group e (omega (arith, all, few))

  pub after_block : place_after memory loop_word first (d + left) ≡ next_place memory loop_word (last_of at.block)
  after_block =
      place_after-add memory loop_word first d left ∙ ap (λ (p : Place). place_after memory loop_word p left) (sym there)
      ∙ ap (place_after memory loop_word at) all ∙ placed_after memory loop_word at group

  pub row_with_block : (samples old new : List ℤ) → take (12 + 4 * d) old ≡ kept_row memory loop_word first samples d
      → ((e : ℕ) → e ≤ groups_left at → take (12 + 4 * d + 4 * e) new ≡ kept_row memory loop_word at (take (12 + 4 * d) old) e)
      → (e : ℕ) → e ≤ left → take (12 + 4 * (d + e)) new ≡ kept_row memory loop_word first samples (d + e)
  row_with_block samples old new was made e few =
      let len : 12 + 4 * (d + e) ≡ 12 + 4 * d + 4 * e = omega arith in
      rw len (made e (omega (arith, all, few)) ∙ (λ i. kept_row memory loop_word (there i) (was i) e) ∙ sym (kept_row-add memory loop_word first samples d e))

  pub marks_with_block : (phases : ℕ → ℕ) (v j old mid new : ℕ) → new ≡ mid + bit_if (ends_in memory (last_of at.block) phases (d + left - 1) j) v
      → mid ≡ old + bit_if (marked memory loop_word first phases v d j) v → new ≡ old + bit_if (marked memory loop_word first phases v (d + left) j) v
  marks_with_block phases v j old mid new made was =
      let some : 0 < left = omega (arith, all, left_some memory loop_word at group) in
      let e : ℕ = left - 1 in
      let number : d + left - 1 ≡ d + e = omega (arith, some) in
      let whole : d + left ≡ d + e + 1 = omega (arith, some) in
      let seven : at.offset + 2 * e ≡ 7 = omega (arith, all, group.within, group.odd) in
      let last : place_after memory loop_word first (d + e) ≡ last_of at.block =
      within_block e (omega (arith, some)) ∙ ap (λ (offset : ℕ). record { block = at.block; offset = offset }) seven in
      let through = marked-through memory loop_word first at phases v d j e group there (omega (arith, all, some)) in
      let more = marked-more memory loop_word first phases v (d + e) j in
      let ended : bit_if (is_read_in phases (d + e) j && is_end memory (place_after memory loop_word first (d + e))) v
      ≡ bit_if (ends_in memory (last_of at.block) phases (d + e) j) v = ap (λ (p : Place). bit_if (is_read_in phases (d + e) j && is_end memory p) v) last in
      rw whole (made ∙ ap (λ (n : ℕ). mid + bit_if (ends_in memory (last_of at.block) phases n j) v) number
      ∙ ap (λ (x : ℕ). x + bit_if (ends_in memory (last_of at.block) phases (d + e) j) v) was ∙ omega (arith, through, more, ended))

  -- what is so of the headers of the groups so far is so of those of the block
  pub quiet_in_block : (reset silent : Bool) → ((e : ℕ) → e ≤ d → is_silencing reset (byte_at memory (place_after memory loop_word first e).block) ≡ true → silent ≡ true)
      → (e : ℕ) → e < d + left → is_silencing reset (byte_at memory (place_after memory loop_word first e).block) ≡ true → silent ≡ true
  quiet_in_block reset silent quiet e few wrapped = by (nat_le e d) refl
    where
      by : (b : Bool) → nat_le e d ≡ b → silent ≡ true
      by true f = let low : e ≤ d = grind (arith, nat_tests, f) in quiet e low wrapped
      by false f =
          let high : d < e = grind (arith, nat_tests, f) in
          let same : e ≡ d + (e - d) = omega (arith, high) in
          let here : (place_after memory loop_word first e).block ≡ (place_after memory loop_word first d).block =
          ap (λ (n : ℕ). (place_after memory loop_word first n).block) same ∙ ap (λ (p : Place). p.block) (within_block (e - d) (omega (arith, few, high)) ∙ refl) ∙ ap (λ (p : Place). p.block) there in
          quiet d (omega arith) (sym (ap (λ (block : ℕ). is_silencing reset (byte_at memory block)) here) ∙ wrapped)

  pub quiet_after_block : (reset silent : Bool) (next : Place) → next ≡ next_place memory loop_word (last_of at.block)
      → ((e : ℕ) → e ≤ d → is_silencing reset (byte_at memory (place_after memory loop_word first e).block) ≡ true → silent ≡ true)
      → (is_silencing reset (byte_at memory next.block) ≡ true → silent ≡ true)
      → (e : ℕ) → e ≤ d + left → is_silencing reset (byte_at memory (place_after memory loop_word first e).block) ≡ true → silent ≡ true
  quiet_after_block reset silent next is quiet new e few wrapped = by (nat_lt e (d + left)) refl
    where
      by : (b : Bool) → nat_lt e (d + left) ≡ b → silent ≡ true
      by true f = let low : e < d + left = grind (arith, nat_tests, f) in quiet_in_block reset silent quiet e low wrapped
      by false f =
          let high : d + left ≤ e = grind (arith, nat_tests, f) in
          let same : e ≡ d + left = omega (arith, high, few) in
          let here : (place_after memory loop_word first e).block ≡ next.block = ap (λ (n : ℕ). (place_after memory loop_word first n).block) same ∙ ap (λ (p : Place). p.block) (after_block ∙ sym is) in
          new (sym (ap (λ (block : ℕ). is_silencing reset (byte_at memory block)) here) ∙ wrapped)
