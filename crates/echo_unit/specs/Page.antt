-- The cells of the echo buffer in the bytes of a page.
use Rattle.std.specs.Prelude.{ℕ, ◌+◌, ◌*◌, ◌/◌, ◌%◌, List, ℤ, slice_index, slice_set}
use Rattle.std.specs.Int.{w16, cast_signed, cast_unsigned}
use Rattle.num_fix.specs.Arithmetic.{floor_shift}
use Rattle.num_fix.specs.declared.Frame.{Frame}

-- the word at a place of a page, read with a sign and halved
unfoldable pub halved_at : (page : List ℕ) → (at : ℕ) → ℤ
halved_at page at = floor_shift (cast_signed w16 (slice_index page at + 256 * slice_index page (at + 1))) 1

-- the pair of the cell there
abbrev pub pair_in : (page : List ℕ) → (at : ℕ) → Frame
pair_in page at = record { left = halved_at page at; right = halved_at page (at + 2) }

-- the page with a signed word put there, low byte first
unfoldable pub with_word_in : (page : List ℕ) → (at : ℕ) → ℤ → List ℕ
with_word_in page at word =
    let bits = cast_unsigned w16 word in
    slice_set (slice_set page at (bits % 0x100)) (at + 1) (bits / 0x100)

-- the page with both words of the cell there
abbrev pub with_pair_in : (page : List ℕ) → (at : ℕ) → (left right : ℤ) → List ℕ
with_pair_in page at left right = with_word_in (with_word_in page at left) (at + 2) right
