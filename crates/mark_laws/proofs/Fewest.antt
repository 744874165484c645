-- A mark gives up those taken first, and no more than it has to.
use Rattle.std.proofs.Common.{◌≡◌, ℕ, zero, suc, ◌+◌, ◌-◌, ◌<◌, ◌≤◌, Bool, true, false, List, [], ◌∷◌, length, drop, nat_lt, refl, ap, sym, subst, true≢false, add-one, ◌∙◌, arith}
use Rattle.std.specs.Prelude.{if◌then◌else◌}
use Rattle.std.proofs.lemmas.Bool.Decides.{nat_tests}
use Rattle.cut_form.specs.declared.mark.Marked.TheVariants.{Kept, Taken, NoPages}
use Rattle.cut_form.specs.Checkpoints.{Checkpoint, with_checkpoint, next_to_dropped, slots_needed, slots_free, has_room_for_one}
use Rattle.cut_form.specs.Marks.{Remaining, without_oldest, room_made, MarkOutcome, mark_in}
use Rattle.mark_laws.specs.GivenUp.{left_after, samples_of, TakenFirstGoFirst, gave_up, LeavesRoom, AsFewAsLeaveRoom}

-- dropping one before others leaves the samples of the others
samples-next : (dropped : Checkpoint) (rest : List Checkpoint) → samples_of (next_to_dropped dropped rest) ≡ samples_of rest
samples-next dropped [] = refl
samples-next dropped (next ∷ rest) = refl

pub taken_first_go_first : TakenFirstGoFirst
taken_first_go_first zero first others = refl
taken_first_go_first (suc count) first [] = taken_first_go_first count first [] ∙ ap (λ (samples : List ℕ). first.sample ∷ samples) (none count)
  where
    none : (count : ℕ) → drop count (samples_of []) ≡ []
    none zero = refl
    none (suc count) = refl
taken_first_go_first (suc count) first (oldest ∷ rest) =
    taken_first_go_first count first (next_to_dropped oldest rest)
    ∙ ap (λ (samples : List ℕ). first.sample ∷ drop count samples) (samples-next oldest rest)

-- one more of them at the end is the same as one more at the beginning
left-one_more : (count : ℕ) (live : List Checkpoint) → left_after (suc count) live ≡ without_oldest (left_after count live)
left-one_more zero live = refl
left-one_more (suc count) live = left-one_more count (without_oldest live)

-- What making room leaves, of what a mark had given up before: no fewer leave room, and where there is none, all were given up.
record Makes (slots : ℕ) (pages : List (List ℕ)) (live : List Checkpoint) (most : ℕ) (room : Remaining) : Type 0 where
  left : room.live ≡ left_after room.gave live
  fewest : (fewer : ℕ) → fewer < room.gave → has_room_for_one slots pages (left_after fewer live) ≡ false
  within : room.gave ≤ most
  all : has_room_for_one slots pages room.live ≡ false → room.gave ≡ most

-- where so many and each fewer leave none, each below one more leaves none
none_yet : (slots : ℕ) (pages : List (List ℕ)) (live : List Checkpoint) (gave : ℕ)
    → ((fewer : ℕ) → fewer < gave → has_room_for_one slots pages (left_after fewer live) ≡ false) → has_room_for_one slots pages (left_after gave live) ≡ false
    → (fewer : ℕ) → fewer < gave + 1 → has_room_for_one slots pages (left_after fewer live) ≡ false
none_yet slots pages live gave fewest none fewer below = by (nat_lt fewer gave) refl
  where
    by : (b : Bool) → nat_lt fewer gave ≡ b → has_room_for_one slots pages (left_after fewer live) ≡ false
    by true less = fewest fewer (let is : fewer < gave = grind (arith, nat_tests, less) in is)
    by false least =
        let same : fewer ≡ gave = grind (arith, nat_tests, least, below) in
        subst (λ (n : ℕ). has_room_for_one slots pages (left_after n live) ≡ false) (sym same) none

makes : (slots : ℕ) (pages : List (List ℕ)) (live : List Checkpoint) (more gave : ℕ)
    → ((fewer : ℕ) → fewer < gave → has_room_for_one slots pages (left_after fewer live) ≡ false)
    → Makes slots pages live (gave + more) (room_made more slots pages (record { live = left_after gave live; gave = gave }))
makes slots pages live zero gave fewest = record { left = refl; fewest = fewest; within = omega arith; all = λ none. omega arith }
makes slots pages live (suc more) gave fewest = by (has_room_for_one slots pages (left_after gave live)) refl (makes slots pages live more (gave + 1))
  where
    by : (b : Bool) → has_room_for_one slots pages (left_after gave live) ≡ b
        → (((fewer : ℕ) → fewer < gave + 1 → has_room_for_one slots pages (left_after fewer live) ≡ false)
        → Makes slots pages live (gave + 1 + more) (room_made more slots pages (record { live = left_after (gave + 1) live; gave = gave + 1 })))
        → Makes slots pages live (gave + suc more)
        (if b then record { live = left_after gave live; gave = gave } else room_made more slots pages (record { live = without_oldest (left_after gave live); gave = gave + 1 }))
    by true is further = record { left = refl; fewest = fewest; within = omega arith; all = λ none. absurd (true≢false (sym is ∙ none)) }
    by false is further =
        let count : gave + 1 + more ≡ gave + suc more = omega arith in
        let one_more : left_after (gave + 1) live ≡ without_oldest (left_after gave live) = ap (λ (n : ℕ). left_after n live) (add-one gave) ∙ left-one_more gave live in
        subst (λ (n : ℕ). Makes slots pages live n (room_made more slots pages (record { live = without_oldest (left_after gave live); gave = gave + 1 }))) count
        (subst (λ (l : List Checkpoint). Makes slots pages live (gave + 1 + more) (room_made more slots pages (record { live = l; gave = gave + 1 }))) one_more
        (further (none_yet slots pages live gave fewest is)))

leaves : (slots : ℕ) (pages : List (List ℕ)) (sample : ℕ) (live : List Checkpoint) (room : Remaining) → Makes slots pages live (length live - 1) room
    → LeavesRoom slots pages sample live (gave_up (mark_in slots pages sample room).marked) (mark_in slots pages sample room)
leaves slots pages sample live room made = by (has_room_for_one slots pages room.live) refl
  where
    outcome : Bool → MarkOutcome
    outcome b =
        if b then record { live = with_checkpoint room.live sample pages; marked = Taken room.gave }
        else record { live = room.live; marked = NoPages room.gave (slots_needed room.live pages) (slots_free slots room.live) }

    has : (b : Bool) → has_room_for_one slots pages room.live ≡ b → has_room_for_one slots pages (left_after room.gave live) ≡ b
    has b is = ap (λ (l : List Checkpoint). has_room_for_one slots pages l) (sym made.left) ∙ is

    by : (b : Bool) → has_room_for_one slots pages room.live ≡ b → LeavesRoom slots pages sample live (gave_up (outcome b).marked) (outcome b)
    by true is = record {
      fewest = made.fewest;
      others = made.within;
      taken = λ there. (refl, ap (λ (l : List Checkpoint). with_checkpoint l sample pages) made.left);
      all = λ none. absurd (true≢false (sym (has true is) ∙ none));
      known = λ none. absurd (true≢false (sym (has true is) ∙ none));
    }
    by false is = record {
      fewest = made.fewest;
      others = made.within;
      taken = λ there. absurd (true≢false (sym there ∙ has false is));
      all = λ none. made.all is;
      known = λ none. (ap (λ (l : List Checkpoint). NoPages room.gave (slots_needed l pages) (slots_free slots l)) made.left, made.left);
    }

pub as_few_as_leave_room : AsFewAsLeaveRoom
as_few_as_leave_room slots pages sample live none =
    let room : Remaining = room_made (length live - 1) slots pages (record { live = live; gave = 0 }) in
    let others : 0 + (length live - 1) ≡ length live - 1 = omega arith in
    let made : Makes slots pages live (length live - 1) room =
    subst (λ (n : ℕ). Makes slots pages live n room) others (makes slots pages live (length live - 1) 0 (λ fewer below. absurd (omega (arith, below)))) in
    let outcome : Bool → MarkOutcome = λ b. if b then record { live = live; marked = Kept } else mark_in slots pages sample room in
    subst (λ (b : Bool). LeavesRoom slots pages sample live (gave_up (outcome b).marked) (outcome b)) (sym none) (leaves slots pages sample live room made)
