-- How many groups a voice has read before each sample, by how far its samples stand.
use Rattle.std.proofs.Common.{◌≡◌, ◌≢◌, ℕ, zero, suc, ◌+◌, ◌-◌, ◌*◌, ◌/◌, ◌<◌, ◌≤◌, ◌==◌, nat_le, nat_lt, ◌&&◌, List, Bool, true, false, length, slice_index, slice_set, refl, ◌∙◌, arith, add-one}
use Rattle.std.proofs.Math.Nat.{div-mul-le_self, lt-div-mul-add}
use Rattle.std.proofs.lemmas.Bool.{and_from, and_parts, eq-eqb}
use Rattle.std.proofs.lemmas.List.{get_or-set_same, get_or-set_other}
use Rattle.std.proofs.lemmas.Bool.Decides.{nat_tests}
use Rattle.voice_batch.specs.Row.{next_phase, ArePhases, groups_before, is_read_in}
use Rattle.voice_batch.specs.SpanPhases.{steady_phases, MoveOn}

pub groups_before-zero : (phases : ℕ → ℕ) → groups_before phases 0 ≡ 0
unfolding groups_before
groups_before-zero phases = refl

pub groups_before-more : (phases : ℕ → ℕ) (j : ℕ) → groups_before phases (j + 1) ≡ phases j / 0x4000
unfolding groups_before
groups_before-more phases j = rw add-one refl

-- a group is read in one sample or more
pub first_of : (phases : ℕ → ℕ) (n group : ℕ) → group < groups_before phases n → 0 < n
unfolding groups_before
first_of phases zero group read = absurd (omega (arith, read))
first_of phases (suc n) group read = omega arith

-- where a sample stands after the one before
pub record IsNext (phase next : ℕ) : Type 0 where
  pub rise : phase ≤ next
  pub near : next < 0x4000 * (phase / 0x4000) + 0x8000

pub is_next : (phase pitch : ℕ) → IsNext phase (next_phase phase pitch)
is_next phase pitch = record { rise = omega arith; near = omega arith }

-- samples that stand by their pitches stand one after another
pub moves_on : (pitches : ℕ → ℕ) (n position : ℕ) (phases : ℕ → ℕ) → position < 0x8000 → ArePhases pitches n position phases → MoveOn phases n
moves_on pitches n position phases low are = record {
  first = rw are.first low;
  rise = λ j below. rw (are.next j below) (is_next (phases j) (pitches j)).rise;
  near = λ j below. rw (are.next j below) (is_next (phases j) (pitches j)).near;
}

-- a pitch below 4000h leads no position to its end
pub free_phase : (phase pitch : ℕ) → pitch ≤ 0x4000 → next_phase phase pitch ≡ phase + pitch
free_phase phase pitch slow = omega (arith, slow)

pub steady : (pitch n position : ℕ) → pitch < 0x4000 → ArePhases (λ j. pitch) n position (steady_phases position pitch)
steady pitch n position slow = record {
  first = omega arith;
  next = λ j below.
      let further : position + (j + 1) * pitch ≡ position + j * pitch + pitch = omega arith in
      further ∙ omega (arith, free_phase (position + j * pitch) pitch (omega (arith, slow)));
}

-- the first of a row of them, and one more
pub first_phase : (pitches : ℕ → ℕ) (position : ℕ) (row : List ℕ) (x : ℕ) → 0 < length row → x ≡ position → ArePhases pitches 0 position (slice_index (slice_set row 0 x))
first_phase pitches position row x within is = record {
  first = get_or-set_same row 0 x 0 within ∙ is;
  next = λ j below. absurd (omega (arith, below));
}

pub one_phase_more : (pitches : ℕ → ℕ) (j position : ℕ) (row : List ℕ) (x : ℕ) → j + 1 < length row → x ≡ next_phase (slice_index row j) (pitches j)
    → ArePhases pitches j position (slice_index row) → ArePhases pitches (j + 1) position (slice_index (slice_set row (j + 1) x))
one_phase_more pitches j position row x within is are = record {
  first = before 0 (omega arith) ∙ are.first;
  next = λ i below. by i (i == j) refl below;
}
  where
    before : (i : ℕ) → i < j + 1 → slice_index (slice_set row (j + 1) x) i ≡ slice_index row i
    before i below = get_or-set_other row (j + 1) i x 0 (λ same. absurd (omega (arith, below, same)))

    by : (i : ℕ) (b : Bool) → (i == j) ≡ b → i < j + 1 → slice_index (slice_set row (j + 1) x) (i + 1) ≡ next_phase (slice_index (slice_set row (j + 1) x) i) (pitches i)
    by i true e below =
        let here : i ≡ j = grind (arith, nat_tests, e) in
        rw (here, before j (omega arith), get_or-set_same row (j + 1) x 0 within) is
    by i false e below =
        let other : i ≢ j = grind (arith, nat_tests, e) in
        rw (before i below, before (i + 1) (omega (arith, below, other))) (are.next i (omega (arith, below, other)))

-- fewer samples of them
pub fewer_phases : (pitches : ℕ → ℕ) (n m position : ℕ) (phases : ℕ → ℕ) → m ≤ n → ArePhases pitches n position phases → ArePhases pitches m position phases
fewer_phases pitches n m position phases few are = record { first = are.first; next = λ j below. are.next j (omega (arith, below, few)) }

pub fewer : (phases : ℕ → ℕ) (n m : ℕ) → m ≤ n → MoveOn phases n → MoveOn phases m
fewer phases n m few moves = record {
  first = moves.first;
  rise = λ j below. moves.rise j (omega (arith, below, few));
  near = λ j below. moves.near j (omega (arith, below, few));
}

module _ (phases : ℕ → ℕ) (n : ℕ) (moves : MoveOn phases n) where
  -- no sample stands further than this
  pub far : (j : ℕ) → j ≤ n → phases j < 0x4000 * j + 0x8000
  far zero few = omega (arith, moves.first)
  far (suc j) few =
      let one : suc j ≡ j + 1 = omega arith in
      rw one (omega (arith, far j (omega (arith, few)), moves.near j (omega (arith, few))))

  pub further : (j i : ℕ) → j ≤ i → i ≤ n → phases j ≤ phases i
  further j zero below few = let none : j ≡ 0 = omega (arith, below) in rw none (omega arith)
  further j (suc i) below few = by (nat_le j i) refl (λ early. further j i early (omega (arith, few)))
    where
      one : suc i ≡ i + 1
      one = omega arith

      by : (b : Bool) → nat_le j i ≡ b → (j ≤ i → phases j ≤ phases i) → phases j ≤ phases (suc i)
      by true e on =
          let early : j ≤ i = grind (arith, nat_tests, e) in
          rw one (omega (arith, on early, moves.rise i (omega (arith, few))))
      by false e on =
          let late : i < j = grind (arith, nat_tests, e) in
          let same : j ≡ suc i = omega (arith, late, below) in
          rw same (omega arith)

  -- a later sample comes after as many or more
  pub groups_before-rise : (j i : ℕ) → j ≤ i → i ≤ n → groups_before phases j ≤ groups_before phases i
  unfolding groups_before
  groups_before-rise zero i below few = omega arith
  groups_before-rise (suc j) zero below few = absurd (omega (arith, below))
  groups_before-rise (suc j) (suc i) below few = let on = further j i (omega (arith, below)) (omega (arith, few)) in omega (arith, on)

  -- each sample reads one at most
  pub few_groups : (j : ℕ) → j ≤ n → groups_before phases j ≤ j
  unfolding groups_before
  few_groups zero few = omega arith
  few_groups (suc j) few = let on = far j (omega (arith, few)) in omega (arith, on)

  -- a sample before which fewer groups are read is earlier
  pub earlier : (j i group : ℕ) → j ≤ n → groups_before phases j ≤ group → group < groups_before phases i → j < i
  earlier j i group within few more = by (nat_lt j i) refl
    where
      by : (b : Bool) → nat_lt j i ≡ b → j < i
      by true e = grind (arith, nat_tests, e)
      by false e = let late : i ≤ j = grind (arith, nat_tests, e) in absurd (omega (arith, groups_before-rise i j late within, few, more))

  -- where the position is after so many samples
  pub after_from : (j : ℕ) → j < n → 0x4000 * groups_before phases (j + 1) ≤ phases (j + 1)
  after_from j below = let on = moves.rise j below in rw (groups_before-more phases j) (omega (arith, on))

  pub after_to : (j : ℕ) → j < n → phases (j + 1) < 0x4000 * groups_before phases (j + 1) + 0x8000
  after_to j below = let on = moves.near j below in rw (groups_before-more phases j) (omega (arith, on))

-- the sample that reads a group
pub record Reads (phases : ℕ → ℕ) (group q : ℕ) : Type 0 where
  pub before : groups_before phases q ≡ group
  pub after : groups_before phases (q + 1) ≡ group + 1

-- the first sample that stands past a group reads it
pub first_past : (phases : ℕ → ℕ) (n group q : ℕ) → MoveOn phases n → q < n → ((i : ℕ) → i < q → phases i < 0x4000 * (group + 1)) → 0x4000 * (group + 1) ≤ phases q
    → Reads phases group q
unfolding groups_before
first_past phases n group zero moves within earlier past =
    let low = moves.first in
    record { before = omega (arith, low, past); after = groups_before-more phases 0 ∙ omega (arith, low, past) }
first_past phases n group (suc i) moves within earlier past =
    let one : suc i ≡ i + 1 = omega arith in
    let near : phases (suc i) < 0x4000 * (phases i / 0x4000) + 0x8000 = rw one (moves.near i (omega (arith, within))) in
    let under = earlier i (omega arith) in
    record { before = omega (arith, near, under, past); after = groups_before-more phases (suc i) ∙ omega (arith, near, under, past) }

-- where no sample stands past a group, it isn't read
pub none_past : (phases : ℕ → ℕ) (n group : ℕ) → ((i : ℕ) → i < n → phases i < 0x4000 * (group + 1)) → groups_before phases n ≤ group
unfolding groups_before
none_past phases zero group under = omega arith
none_past phases (suc n) group under = let last = under n (omega arith) in omega (arith, last)

-- where a group is read that the position hasn't come to at first, the voice moves on
pub moves : (position pitch group n : ℕ) → position < 0x4000 * (group + 1) → group < groups_before (steady_phases position pitch) n → 0 < pitch
unfolding groups_before
moves position pitch group zero early read = absurd (omega arith)
moves position zero group (suc n) early read = absurd (omega arith)
moves position (suc pitch) group (suc n) early read = omega arith

-- the sample that reads a group that the position hasn't come to at first
pub reads_at_once : (position pitch group : ℕ) → position < 0x8000 → pitch < 0x4000 → 0x4000 * (group + 1) ≤ position → Reads (steady_phases position pitch) group 0
reads_at_once position pitch group low slow late = record {
  before = groups_before-zero (steady_phases position pitch) ∙ omega (arith, low, late);
  after = groups_before-more (steady_phases position pitch) 0 ∙ omega (arith, low, late);
}

pub reads_then : (position pitch group q : ℕ) → pitch < 0x4000 → position + q * pitch < 0x4000 * (group + 1) → 0x4000 * (group + 1) ≤ position + q * pitch + pitch
    → Reads (steady_phases position pitch) group (q + 1)
reads_then position pitch group q slow early late = record {
  before = groups_before-more (steady_phases position pitch) q ∙ omega (arith, slow, early, late);
  after =
      let further : position + (q + 1) * pitch ≡ position + q * pitch + pitch = omega arith in
      groups_before-more (steady_phases position pitch) (q + 1) ∙ rw further (omega (arith, slow, early, late));
}

-- what a sample is that is found by division
pub record IsReader (position pitch group n q : ℕ) : Type 0 where
  pub reads : Reads (steady_phases position pitch) group q
  pub within : q < n

reader_by : (position pitch group n q : ℕ) → position < 0x8000 → pitch < 0x4000 → position < 0x4000 * (group + 1) → group < groups_before (steady_phases position pitch) n
    → q * pitch ≤ 0x4000 * (group + 1) - 1 - position → 0x4000 * (group + 1) - 1 - position < q * pitch + pitch → IsReader position pitch group n (q + 1)
reader_by position pitch group n q low slow early read under over =
    let reads : Reads (steady_phases position pitch) group (q + 1) = reads_then position pitch group q slow (omega (arith, under, early)) (omega (arith, over, early)) in
    let on : MoveOn (steady_phases position pitch) (q + 1) = moves_on (λ j. pitch) (q + 1) position (steady_phases position pitch) low (steady pitch (q + 1) position slow) in
    record { reads = reads; within = earlier (steady_phases position pitch) (q + 1) on (q + 1) n group (omega arith) (omega (arith, reads.before)) read }

pub reader : (position pitch group n : ℕ) → position < 0x8000 → pitch < 0x4000 → position < 0x4000 * (group + 1) → group < groups_before (steady_phases position pitch) n
    → IsReader position pitch group n ((0x4000 * (group + 1) - 1 - position) / pitch + 1)
reader position pitch group n low slow early read =
    reader_by position pitch group n _ low slow early read (div-mul-le_self (0x4000 * (group + 1) - 1 - position) pitch) (lt-div-mul-add (moves position pitch group n early read))

-- it is the only one
pub is_read-same : (phases : ℕ → ℕ) (group q : ℕ) → Reads phases group q → is_read_in phases group q ≡ true
is_read-same phases group q reads = and_from _ _ (eq-eqb _ _ reads.before) (eq-eqb _ _ reads.after)

pub is_read-other : (phases : ℕ → ℕ) (n group q j : ℕ) → MoveOn phases n → q < n → j < n → Reads phases group q → j ≢ q → is_read_in phases group j ≡ false
is_read-other phases n group q j moves within below reads other = by (is_read_in phases group j) refl
  where
    by : (b : Bool) → is_read_in phases group j ≡ b → b ≡ false
    by false e = refl
    by true e =
        let parts = and_parts (groups_before phases j == group) (groups_before phases (j + 1) == group + 1) e in
        let before : groups_before phases j ≡ group = grind (arith, nat_tests, parts.0) in
        let after : groups_before phases (j + 1) ≡ group + 1 = grind (arith, nat_tests, parts.1) in
        let low : j < q + 1 = earlier phases n moves j (q + 1) group (omega (arith, below)) (omega (arith, before)) (omega (arith, reads.after)) in
        let high : q < j + 1 = earlier phases n moves q (j + 1) group (omega (arith, within)) (omega (arith, reads.before)) (omega (arith, after)) in
        absurd (other (omega (arith, low, high)))

-- a sample reads no group that was read before
pub is_read-elsewhere : (phases : ℕ → ℕ) (group j : ℕ) → groups_before phases j ≢ group → is_read_in phases group j ≡ false
is_read-elsewhere phases group j other = by (groups_before phases j == group) refl
  where
    by : (b : Bool) → (groups_before phases j == group) ≡ b → (b && (groups_before phases (j + 1) == group + 1)) ≡ false
    by false e = refl
    by true e = absurd (other (grind (arith, nat_tests, e)))
