-- The bits of a voice that comes to an end, group by group.
use Rattle.std.proofs.Common.{◌≡◌, ◌≢◌, ℕ, ◌+◌, ◌^◌, ◌<◌, ◌≤◌, ◌==◌, nat_lt, ◌&&◌, List, Bool, true, false, slice_index, slice_set, length, if◌then◌else◌, refl, ◌∙◌, arith}
use Rattle.std.proofs.lemmas.Bool.{and_parts, and_right}
use Rattle.std.proofs.lemmas.List.{get_or-set_same, get_or-set_other}
use Rattle.std.proofs.lemmas.Bool.Decides.{nat_tests}
use Rattle.voice_batch.specs.Row.{place_after, groups_before, is_end, is_read_in, ends_in, ended_in}
use Rattle.voice_batch.specs.SpanPhases.{MoveOn}
use Rattle.voice_batch.specs.declared.row.Place.{Place}
use Rattle.voice_batch.proofs.Played.{doubled}
use Rattle.voice_batch.proofs.Counting.{groups_before-rise, is_read-elsewhere, is_read-same, is_read-other, Reads}

-- the bit, where a test holds
abbrev pub bit_if : (b : Bool) → (v : ℕ) → ℕ
bit_if b v = if b then 2 ^ v else 0

-- bytes below the bit of a voice stay below that of the next
pub bit-bound : (b : Bool) (v x : ℕ) → x < 2 ^ v → x + bit_if b v < 2 ^ (v + 1)
bit-bound true v x below = rw (doubled v) (omega (arith, below))
bit-bound false v x below = rw (doubled v) (omega (arith, below))

-- the bit of a voice in the sample that reads a group which ends a block with its end bit
pub mark_one : (ends : List ℕ) (at q j v : ℕ) (memory : List ℕ) (place : Place) (phases : ℕ → ℕ) (n group : ℕ) → MoveOn phases n → q < n → j < n → Reads phases group q → is_end memory place ≡ true
    → at + q < length ends
    → slice_index (slice_set ends (at + q) (slice_index ends (at + q) + 2 ^ v)) (at + j) ≡ slice_index ends (at + j) + bit_if (ends_in memory place phases group j) v
mark_one ends at q j v memory place phases n group moves early below reads ending within = by (j == q) refl
  where
    by : (b : Bool) → (j == q) ≡ b
        → slice_index (slice_set ends (at + q) (slice_index ends (at + q) + 2 ^ v)) (at + j) ≡ slice_index ends (at + j) + bit_if (ends_in memory place phases group j) v
    by true e =
        let here : j ≡ q = grind (arith, nat_tests, e) in
        rw (here, is_read-same phases group q reads, ending) (get_or-set_same ends (at + q) (slice_index ends (at + q) + 2 ^ v) 0 within)
    by false e =
        let other : j ≢ q = grind (arith, nat_tests, e) in
        let apart : at + j ≢ at + q = λ same. other (omega (arith, same)) in
        let none : slice_index ends (at + j) ≡ slice_index ends (at + j) + 0 = omega arith in
        rw (is_read-other phases n group q j moves early below reads other) (get_or-set_other ends (at + q) (at + j) (slice_index ends (at + q) + 2 ^ v) 0 apart ∙ none)

module _ (memory : List ℕ) (loop_word : ℕ) (first : Place) (phases : ℕ → ℕ) (v : ℕ) where
  -- what is marked in sample j once so many groups are read
  abbrev pub marked : (groups j : ℕ) → Bool
  marked groups j = nat_lt (groups_before phases j) groups && ended_in memory loop_word first phases j

  pub marked-none : (j : ℕ) → marked 0 j ≡ false
  marked-none j = by (nat_lt (groups_before phases j) 0) refl
    where
      by : (b : Bool) → nat_lt (groups_before phases j) 0 ≡ b → (b && ended_in memory loop_word first phases j) ≡ false
      by false e = refl
      by true e = absurd (let below : groups_before phases j < 0 = grind (arith, nat_tests, e) in omega arith)

  -- nothing is marked where no group is read yet
  pub marked-later : (groups j : ℕ) → groups ≤ groups_before phases j → marked groups j ≡ false
  marked-later groups j late = by (nat_lt (groups_before phases j) groups) refl
    where
      by : (b : Bool) → nat_lt (groups_before phases j) groups ≡ b → (b && ended_in memory loop_word first phases j) ≡ false
      by false e = refl
      by true e = absurd (let below : groups_before phases j < groups = grind (arith, nat_tests, e) in omega (arith, late))

  -- one group more
  pub marked-more : (d j : ℕ) → bit_if (marked d j) v + bit_if (is_read_in phases d j && is_end memory (place_after memory loop_word first d)) v ≡ bit_if (marked (d + 1) j) v
  marked-more d j = by (nat_lt g d) refl (nat_lt d g) refl
    where
      g : ℕ
      g = groups_before phases j

      ends : Bool
      ends = ended_in memory loop_word first phases j

      other : (b : Bool) → nat_lt g d ≡ b → nat_lt g (d + 1) ≡ b → g ≢ d
          → bit_if (marked d j) v + bit_if (is_read_in phases d j && is_end memory (place_after memory loop_word first d)) v ≡ bit_if (marked (d + 1) j) v
      other b now soon apart = rw (is_read-elsewhere phases d j apart, now, soon) (omega arith)

      by : (b : Bool) → nat_lt g d ≡ b → (c : Bool) → nat_lt d g ≡ c
          → bit_if (marked d j) v + bit_if (is_read_in phases d j && is_end memory (place_after memory loop_word first d)) v ≡ bit_if (marked (d + 1) j) v
      by true e c f =
          let below : g < d = grind (arith, nat_tests, e) in
          let soon : nat_lt g (d + 1) ≡ true = grind (arith, nat_tests, below) in
          other true e soon (λ same. absurd (omega (arith, below, same)))
      by false e true f =
          let above : d < g = grind (arith, nat_tests, f) in
          let soon : nat_lt g (d + 1) ≡ false = grind (arith, nat_tests, above) in
          other false e soon (λ same. absurd (omega (arith, above, same)))
      by false e false f =
          let low : d ≤ g = grind (arith, nat_tests, e) in
          let high : g ≤ d = grind (arith, nat_tests, f) in
          let same : g ≡ d = omega arith in
          let soon : nat_lt g (d + 1) ≡ true = grind (arith, nat_tests, high) in
          rw (e, soon, ← same) (omega arith)

  -- all is marked in the samples before which fewer groups are read than in all
  pub marked-all : (n j : ℕ) → MoveOn phases n → j < n → marked (groups_before phases n) j ≡ ended_in memory loop_word first phases j
  marked-all n j moves below = by (is_read_in phases g j) refl
    where
      g : ℕ
      g = groups_before phases j

      by : (b : Bool) → is_read_in phases g j ≡ b
          → (nat_lt g (groups_before phases n) && (b && is_end memory (place_after memory loop_word first g))) ≡ (b && is_end memory (place_after memory loop_word first g))
      by false e = and_right (nat_lt g (groups_before phases n)) false refl
      by true e =
          let parts = and_parts (g == g) (groups_before phases (j + 1) == g + 1) e in
          let after : groups_before phases (j + 1) ≡ g + 1 = grind (arith, nat_tests, parts.1) in
          let rise = groups_before-rise phases n moves (j + 1) n (omega (arith, below)) (omega arith) in
          let less : g < groups_before phases n = omega (arith, after, rise) in
          let test : nat_lt g (groups_before phases n) ≡ true = grind (arith, nat_tests, less) in
          rw test refl
