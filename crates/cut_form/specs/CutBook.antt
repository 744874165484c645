-- The book of a server: where it stands, its checkpoints, and how many samples it made (own). `pages_at k` are the pages of the
-- memory that the run from the opening has once k samples are made.
use Rattle.std.specs.Prelude.{ℕ, ◌+◌, ◌-◌, ◌*◌, ◌^◌, min, not, ◌&&◌, nat_le, if◌then◌else◌, List, [], fold}
use Rattle.cut_form.specs.declared.cut.Cut.{Cut}
use Rattle.cut_form.specs.declared.cut.TheConstants.{MAX_PLAYED, SLOTS_FOR_CUTS}
use Rattle.cut_form.specs.Checkpoints.{Checkpoint, with_checkpoint, without_checkpoint, slots_needed, has_room_for_one, stands_at, nearest}

pub record CutBook : Type 0 where
  -- the samples before the position
  pub position : ℕ
  pub live : List Checkpoint
  -- the samples made by seeks and plays
  pub made : ℕ

-- at the opening there is a checkpoint, and nothing was made
abbrev pub opened_book : (pages_at : ℕ → List (List ℕ)) → CutBook
opened_book pages_at = record { position = 0; live = with_checkpoint [] 0 (pages_at 0); made = 0 }

-- Where a seek runs from: the position, unless that lies after the goal or before the last checkpoint up to the goal; else
-- that checkpoint.
abbrev pub runs_from : CutBook → (at : ℕ) → ℕ
runs_from book at =
    let checkpoint = nearest book.live at in
    if nat_le book.position at && nat_le checkpoint book.position then book.position else checkpoint

abbrev pub after_seek : CutBook → (at : ℕ) → CutBook
after_seek book at = record book { position = at; made = book.made + (at - runs_from book at) }

-- the most samples that a server plays into a list at once: 64
abbrev pub max_played : ℕ
max_played = MAX_PLAYED

-- the bytes of these samples in a sound file
abbrev pub max_played_bytes : ℕ
max_played_bytes = 4 * max_played

abbrev pub after_play : CutBook → (count : ℕ) → CutBook
after_play book count = record book { position = book.position + count; made = book.made + count }

-- the book with other checkpoints
abbrev pub with_live : CutBook → List Checkpoint → CutBook
with_live book live = record book { live = live }

-- with one more at the position, and without the one at a sample
abbrev pub with_one_here : (pages_at : ℕ → List (List ℕ)) → CutBook → CutBook
with_one_here pages_at book = with_live book (with_checkpoint book.live book.position (pages_at book.position))

abbrev pub without_one : CutBook → (sample : ℕ) → CutBook
without_one book sample = with_live book (without_checkpoint book.live sample)

-- how many slots a checkpoint at the position needs
abbrev pub needed_here : (pages_at : ℕ → List (List ℕ)) → CutBook → ℕ
needed_here pages_at book = slots_needed book.live (pages_at book.position)

-- a count of 64 bits stays at its end
abbrev pub counted_book : CutBook → CutBook
counted_book book = record book { made = min book.made (2 ^ 64 - 1) }

-- The books of lists of cuts.

-- the slots of their pool: 4096
abbrev pub slots_for_cuts : ℕ
slots_for_cuts = SLOTS_FOR_CUTS

-- one more is taken where none stands and there is room for it
abbrev pub with_one_if_room : (slots : ℕ) → (pages_at : ℕ → List (List ℕ)) → CutBook → CutBook
with_one_if_room slots pages_at book =
    if not (stands_at book.live book.position) && has_room_for_one slots (pages_at book.position) book.live then with_one_here pages_at book else book

abbrev pub after_cut : (pages_at : ℕ → List (List ℕ)) → CutBook → Cut → CutBook
after_cut pages_at book cut = after_play (with_one_if_room slots_for_cuts pages_at (after_seek book cut.start)) cut.count

-- the book once all cuts are played
abbrev pub cut_book : (pages_at : ℕ → List (List ℕ)) → List Cut → CutBook
cut_book pages_at cuts = fold (after_cut pages_at) (opened_book pages_at) cuts
