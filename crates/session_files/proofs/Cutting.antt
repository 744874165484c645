-- What is still to come of cuts, once one was begun or a part of one was played.
use Rattle.std.proofs.Common.{◌≡◌, ◌∙◌, sym, ap, refl, ℕ, zero, suc, ◌+◌, ◌-◌, ◌^◌, ◌≤◌, ◌<◌, Bool, true, false, List, [], ◌∷◌, ◌++◌, length, Some, inl, inr, arith}
use Rattle.std.specs.Prelude.{not, ◌&&◌, nat_le, nat_lt, fold}
use Rattle.std.specs.List.{slice_get}
use Rattle.std.proofs.lemmas.Bool.{cases_Bool}
use Rattle.std.proofs.lemmas.Bool.Decides.{nat_tests}
use Rattle.std.proofs.lemmas.List.Sums.{sum_by-cons, sum_by_push}
use Rattle.num_fix.specs.Limits.{max_frames}
use Rattle.chip_form.specs.ChipMeaning.{ChipMeaning}
use Rattle.chip_form.specs.ChipSaving.{ChipSaving}
use Rattle.cut_form.specs.declared.cut.Cut.{Cut}
use Rattle.cut_form.specs.Checkpoints.{Checkpoint, slots_used, slots_free, slots_needed, own_slots, shared_with_newest, has_room_for_one, stands_at}
use Rattle.cut_form.specs.CutBook.{CutBook, after_seek, after_play, after_cut, counted_book, with_live, with_one_if_room, slots_for_cuts}
use Rattle.cut_form.specs.Slices.{slice_of, cut_frames, cut_samples}
use Rattle.cut_server.specs.ServerState.{book_of, slots_of, pages_after}
use Rattle.cut_server.specs.Server.{ChipServer, lock_step_machines, pages_at, KeepsTune}
use Rattle.cut_text.specs.Cuts.{EndWithinHour}
use Rattle.cut_form.specs.GrowingFrames.{AreOfRun}
use Rattle.cut_form.proofs.Slices.{length-cuts}
use Rattle.session_files.specs.CutFiles.{IsInBounds, cuts_report}

-- how many frames cuts have
pub length-cut_frames : {A : Type 0} (f : ℕ → List A) → AreOfRun f → (cuts : List Cut) → cut_samples cuts ≡ length (cut_frames f cuts)
length-cut_frames f run [] = refl
length-cut_frames f run (cut ∷ cuts) =
    sum_by-cons (λ (c : Cut). c.count) cut cuts
    ∙ ap (λ (n : ℕ). cut.count + n) (length-cut_frames f run cuts)
    ∙ sym (length-cuts f run cut cuts)

-- each cut of a list ends within an hour
pub ends_within : (cuts : List Cut) (i : ℕ) (cut : Cut) → EndWithinHour cuts → slice_get cuts i ≡ Some cut → cut.start + cut.count ≤ max_frames
ends_within [] i cut within is = cc
ends_within (x ∷ xs) zero cut within is = grind (arith, within.0, is)
ends_within (x ∷ xs) (suc i) cut within is = ends_within xs i cut within.1 is

-- a count that is below its end stays what it is
pub counted_same : (book : CutBook) → book.made < 2 ^ 64 → counted_book book ≡ book
counted_same book few = ap (λ (n : ℕ). record book { made = n }) (omega (arith, few))

-- two plays are one
pub played_none : (book : CutBook) → after_play book 0 ≡ book
played_none book =
    ap (λ (n : ℕ). record book { position = n; made = book.made + 0 }) (omega arith) ∙ ap (λ (n : ℕ). record book { made = n }) (omega arith)

pub played_more : (book : CutBook) (some all : ℕ) → some ≤ all → after_play (after_play book some) (all - some) ≡ after_play book all
played_more book some all within =
    ap (λ (n : ℕ). record book { position = n; made = (book.made + some) + (all - some) }) (omega (arith, within))
    ∙ ap (λ (n : ℕ). record book { position = book.position + all; made = n }) (omega (arith, within))

-- A checkpoint that is taken where there is room changes nothing else, and the slots in use stay slots of the pool.
pub kept_if_room : (slots : ℕ) (pages : ℕ → List (List ℕ)) (book : CutBook) → with_one_if_room slots pages book ≡ with_live book (with_one_if_room slots pages book).live
kept_if_room slots pages book = elim (cases_Bool (not (stands_at book.live book.position) && has_room_for_one slots (pages book.position) book.live)) [
  | inl room ↦ rw room refl
  | inr full ↦ rw full refl
]

last_of_three : (a b c : Bool) → (a && (b && c)) ≡ true → c ≡ true
last_of_three true true c all = all
last_of_three true false c all = cc
last_of_three false b c all = cc

used_with_one : (slots : ℕ) (pages : List (List ℕ)) (live : List Checkpoint) (sample : ℕ) → slots_used live ≤ slots → nat_le (slots_needed live pages) (slots_free slots live) ≡ true
    → slots_used (live ++ record { sample = sample; pages = pages; shared = shared_with_newest live pages } ∷ []) ≤ slots
used_with_one slots pages live sample used room =
    let needed : slots_needed live pages ≤ slots_free slots live = grind (arith, nat_tests, room) in
    omega (arith, used, needed, sum_by_push (λ (c : Checkpoint). own_slots c.shared) live (record { sample = sample; pages = pages; shared = shared_with_newest live pages }))

pub used_if_room : (slots : ℕ) (pages : ℕ → List (List ℕ)) (book : CutBook) → slots_used book.live ≤ slots → slots_used (with_one_if_room slots pages book).live ≤ slots
used_if_room slots pages book used = elim (cases_Bool (not (stands_at book.live book.position) && has_room_for_one slots (pages book.position) book.live)) [
  | inl room ↦ rw room (used_with_one slots (pages book.position) book.live book.position used
      (last_of_three (not (stands_at book.live book.position)) (nat_lt (length book.live) 64) (nat_le (slots_needed book.live (pages book.position)) (slots_free slots book.live)) room))
  | inr full ↦ rw full used
]

-- the book of a server that went to a cut and took a checkpoint where there was room
book_begun : (old mid new : CutBook) (slots start : ℕ) (pages kept : ℕ → List (List ℕ)) → old.made + max_frames < 2 ^ 64 → start ≤ max_frames → slots ≡ slots_for_cuts → kept ≡ pages
    → mid ≡ counted_book (after_seek old start) → new ≡ with_one_if_room slots kept mid → new ≡ with_one_if_room slots_for_cuts pages (after_seek old start)
book_begun old mid new slots start pages kept few within all same gone taken =
    let there : mid ≡ after_seek old start = gone ∙ counted_same (after_seek old start) (omega (arith, few, within)) in
    rw (taken, there, all, same) refl

-- a cut that was begun stays within the bounds
pub bounds_begun : {book : CutBook} {left more : ℕ} (new : CutBook) (pages : ℕ → List (List ℕ)) (cut : Cut) → IsInBounds book left (suc more) → cut.start + cut.count ≤ max_frames
    → new ≡ with_one_if_room slots_for_cuts pages (after_seek book cut.start) → IsInBounds new cut.count more
bounds_begun {book} {left} {more} new pages cut bounds within is =
    let kept : new ≡ with_live (after_seek book cut.start) new.live = rw is (kept_if_room slots_for_cuts pages (after_seek book cut.start)) in
    record {
      within = omega (arith, within, ap (λ (b : CutBook). b.position) kept);
      used = rw is (used_if_room slots_for_cuts pages (after_seek book cut.start) bounds.used);
      made = omega (arith, within, bounds.made, ap (λ (b : CutBook). b.made) kept);
    }

module _ {S V : Type 0} (chip : ChipMeaning S) (saving : ChipSaving S V) where
  pages_kept : {old new : ChipServer S V} → KeepsTune chip saving old new → pages_at chip saving new ≡ pages_at chip saving old
  pages_kept tune = ap (pages_after (lock_step_machines chip saving)) tune.start

  pub kept_twice : {old mid new : ChipServer S V} → KeepsTune chip saving old mid → KeepsTune chip saving mid new → KeepsTune chip saving old new
  kept_twice first second = record { start = second.start ∙ first.start; slots = second.slots ∙ first.slots }

  -- the book of a server that went to a cut and took a checkpoint there
  pub server_begun : {old mid new : ChipServer S V} {left more : ℕ} (cut : Cut) → IsInBounds (book_of old) left (suc more) → cut.start + cut.count ≤ max_frames → slots_of old ≡ slots_for_cuts
      → KeepsTune chip saving old mid → KeepsTune chip saving mid new → book_of mid ≡ counted_book (after_seek (book_of old) cut.start)
      → book_of new ≡ with_one_if_room (slots_of mid) (pages_at chip saving mid) (book_of mid)
      → book_of new ≡ with_one_if_room slots_for_cuts (pages_at chip saving old) (after_seek (book_of old) cut.start)
  server_begun {old} {mid} {new} cut bounds within slots first second gone taken =
      book_begun (book_of old) (book_of mid) (book_of new) (slots_of mid) cut.start (pages_at chip saving old) (pages_at chip saving mid)
      (omega (arith, bounds.made)) (omega (arith, within)) (first.slots ∙ slots) (pages_kept first) gone taken

  -- the report stays what it is where the book to come does
  report_kept : {old new : ChipServer S V} (cuts rest left : List Cut) (first more : CutBook) → KeepsTune chip saving old new
      → fold (after_cut (pages_at chip saving old)) first rest ≡ fold (after_cut (pages_at chip saving old)) more left
      → cuts_report cuts (fold (after_cut (pages_at chip saving new)) first rest) ≡ cuts_report cuts (fold (after_cut (pages_at chip saving old)) more left)
  report_kept cuts rest left first more tune same = ap (λ (p : ℕ → List (List ℕ)). cuts_report cuts (fold (after_cut p) first rest)) (pages_kept tune) ∙ ap (cuts_report cuts) same

  -- a cut was begun
  pub report_begun : {old new : ChipServer S V} (cuts rest all : List Cut) (cut : Cut) (left : ℕ) → KeepsTune chip saving old new → left ≡ 0 → all ≡ cut ∷ rest
      → book_of new ≡ with_one_if_room slots_for_cuts (pages_at chip saving old) (after_seek (book_of old) cut.start)
      → cuts_report cuts (fold (after_cut (pages_at chip saving new)) (after_play (book_of new) cut.count) rest)
      ≡ cuts_report cuts (fold (after_cut (pages_at chip saving old)) (after_play (book_of old) left) all)
  report_begun {old} {new} cuts rest all cut left tune none first book =
      let pages = pages_at chip saving old in
      let before : after_play (book_of old) left ≡ book_of old = ap (after_play (book_of old)) none ∙ played_none (book_of old) in
      report_kept cuts rest all (after_play (book_of new) cut.count) (after_play (book_of old) left) tune
      (ap (λ (b : CutBook). fold (after_cut pages) (after_play b cut.count) rest) book
      ∙ ap (λ (b : CutBook). fold (after_cut pages) b (cut ∷ rest)) (sym before)
      ∙ ap (fold (after_cut pages) (after_play (book_of old) left)) (sym first))

  -- frames were played
  pub report_played : {old new : ChipServer S V} (cuts rest : List Cut) (most left : ℕ) → KeepsTune chip saving old new → most ≤ left → book_of new ≡ after_play (book_of old) most
      → cuts_report cuts (fold (after_cut (pages_at chip saving new)) (after_play (book_of new) (left - most)) rest)
      ≡ cuts_report cuts (fold (after_cut (pages_at chip saving old)) (after_play (book_of old) left) rest)
  report_played {old} {new} cuts rest most left tune within book =
      let pages = pages_at chip saving old in
      report_kept cuts rest rest (after_play (book_of new) (left - most)) (after_play (book_of old) left) tune
      (ap (λ (b : CutBook). fold (after_cut pages) (after_play b (left - most)) rest) book
      ∙ ap (λ (b : CutBook). fold (after_cut pages) b rest) (played_more (book_of old) most left within))
