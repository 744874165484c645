-- Where marks are taken, and what they are once frames are played in pieces.
use Rattle.std.proofs.Common.{◌≡◌, ◌∙◌, refl, sym, ap, ℕ, zero, suc, ◌+◌, ◌*◌, ◌/◌, ◌%◌, ◌<◌, ◌≤◌, false, if◌then◌else◌, List, arith}
use Rattle.std.proofs.Math.Nat.{mod-add-div'}
use Rattle.std.proofs.lemmas.Nat.{mod-mul-add}
use Rattle.std.proofs.lemmas.Bool.Decides.{nat_tests}
use Rattle.chip_form.specs.ChipMeaning.{ChipMeaning}
use Rattle.chip_form.specs.ChipSaving.{ChipSaving}
use Rattle.cut_form.specs.Checkpoints.{Checkpoint}
use Rattle.cut_form.specs.Marks.{mark_at}
use Rattle.player.specs.OwnMarks.{is_own_mark, with_own_mark, marks_after}
use Rattle.player.specs.Player.{PlayerState, position_of, marks_of, pool_capacity, memory_of, marks_played, KeepsPlayer}

-- a few samples behind a multiple there is none yet
pub quiet_ahead : (spacing at k : ℕ) → 0 < k → at % spacing + k < spacing → is_own_mark spacing (at + k) ≡ false
quiet_ahead spacing at k some few =
    let parts : at + k ≡ at / spacing * spacing + (at % spacing + k) = omega (arith, mod-add-div' at spacing) in
    let rest : (at + k) % spacing ≡ at % spacing + k = ap (λ n. n % spacing) parts ∙ mod-mul-add (at / spacing) spacing (at % spacing + k) few in
    grind (arith, nat_tests, rest)

-- without a spacing there is none at all
pub quiet_ever : (at : ℕ) → is_own_mark 0 at ≡ false
quiet_ever at = refl

module _ (capacity : ℕ) (memory : ℕ → List (List ℕ)) (spacing : ℕ) where
  with_none : (at : ℕ) (marks : List Checkpoint) → is_own_mark spacing at ≡ false → with_own_mark capacity memory spacing at marks ≡ marks
  with_none at marks none = ap (λ is. if is then (mark_at capacity (memory at) at marks).live else marks) none

  -- where none is taken the marks stay
  marks_stay : (from : ℕ) (marks : List Checkpoint) (count : ℕ) → ((k : ℕ) → 0 < k → k ≤ count → is_own_mark spacing (from + k) ≡ false)
      → marks_after capacity memory spacing from marks count ≡ marks
  unfolding marks_after
  marks_stay from marks zero none = refl
  marks_stay from marks (suc count) none =
      with_none (from + suc count) (marks_after capacity memory spacing from marks count) (none (suc count) (omega arith) (omega arith))
      ∙ marks_stay from marks count (λ k some few. none k some (omega (arith, few)))

  -- of a piece only the last frame can bring one
  marks_of_last : (from : ℕ) (marks : List Checkpoint) (count : ℕ) → ((k : ℕ) → 0 < k → k < suc count → is_own_mark spacing (from + k) ≡ false)
      → with_own_mark capacity memory spacing (from + suc count) marks ≡ marks_after capacity memory spacing from marks (suc count)
  unfolding marks_after
  marks_of_last from marks count none =
      ap (with_own_mark capacity memory spacing (from + suc count)) (sym (marks_stay from marks count (λ k some few. none k some (omega (arith, few)))))

  pub marks_of_piece : (from : ℕ) (marks : List Checkpoint) (count : ℕ) → 0 < count → ((k : ℕ) → 0 < k → k < count → is_own_mark spacing (from + k) ≡ false)
      → with_own_mark capacity memory spacing (from + count) marks ≡ marks_after capacity memory spacing from marks count
  marks_of_piece from marks zero some none = absurd (omega (arith, some))
  marks_of_piece from marks (suc count) some none = marks_of_last from marks count none

  -- two pieces, one after the other
  pub marks_joined : (from : ℕ) (marks : List Checkpoint) (done more : ℕ)
      → marks_after capacity memory spacing (from + done) (marks_after capacity memory spacing from marks done) more ≡ marks_after capacity memory spacing from marks (done + more)
  unfolding marks_after
  marks_joined from marks done zero = let all : done ≡ done + 0 = omega arith in ap (marks_after capacity memory spacing from marks) all
  marks_joined from marks done (suc more) =
      let next : (from + done) + suc more ≡ from + suc (done + more) = omega arith in
      let all : suc (done + more) ≡ done + suc more = omega arith in
      ap (λ n. with_own_mark capacity memory spacing n (marks_after capacity memory spacing (from + done) (marks_after capacity memory spacing from marks done) more)) next
      ∙ ap (with_own_mark capacity memory spacing (from + suc (done + more))) (marks_joined from marks done more)
      ∙ ap (marks_after capacity memory spacing from marks) all

  pub marks_none : (from : ℕ) (marks : List Checkpoint) → marks ≡ marks_after capacity memory spacing from marks 0
  unfolding marks_after
  marks_none from marks = refl

module _ {S V : Type 0} (chip : ChipMeaning S) (saving : ChipSaving S V) where
  -- the marks of a player that has played some frames, and plays some more
  pub marks_more : (first next : PlayerState S V) (done more : ℕ) (now : List Checkpoint) → KeepsPlayer chip saving first next → position_of next ≡ position_of first + done
      → marks_of next ≡ marks_played chip saving first done → now ≡ marks_played chip saving next more → now ≡ marks_played chip saving first (done + more)
  marks_more first next done more now keeps there before is =
      is
      ∙ (λ i. marks_after (keeps.capacity i) (keeps.memory i) (keeps.spacing i) (there i) (before i) more)
      ∙ marks_joined (pool_capacity first) (memory_of chip saving first) first.spacing (position_of first) (marks_of first) done more

  -- the marks of a player that has played a piece, and taken the mark that was due
  pub marks_piece : (first next : PlayerState S V) (count : ℕ) (now : List Checkpoint) → 0 < count → ((k : ℕ) → 0 < k → k < count → is_own_mark first.spacing (position_of first + k) ≡ false)
      → pool_capacity next ≡ pool_capacity first → memory_of chip saving next ≡ memory_of chip saving first → next.spacing ≡ first.spacing → position_of next ≡ position_of first + count → marks_of next ≡ marks_of first
      → now ≡ with_own_mark (pool_capacity next) (memory_of chip saving next) next.spacing (position_of next) (marks_of next) → now ≡ marks_played chip saving first count
  marks_piece first next count now some quiet capacity memory spacing there marks is =
      is
      ∙ (λ i. with_own_mark (capacity i) (memory i) (spacing i) (there i) (marks i))
      ∙ marks_of_piece (pool_capacity first) (memory_of chip saving first) first.spacing (position_of first) (marks_of first) count some quiet
