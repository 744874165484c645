-- The headers of the blocks of an encoding, as they stand in its bytes.
use Rattle.std.specs.Prelude.{◌≡◌, ℕ, ◌+◌, ◌*◌, ◌<◌, ◌==◌, List, length, slice_index, Bool}
use Rattle.brr_encode.specs.Encoding.{end_bits, stands_alone}
use Rattle.brr_encode.specs.Triples.{IsAllowedHeader}

-- a header byte: a header that the block may have, and these bits
pub record IsHeaderByte (alone : Bool) (bits byte : ℕ) : Type 0 where
  pub header : ℕ
  pub allowed : IsAllowedHeader alone header
  pub is : byte ≡ header + bits

-- Blocks of nine bytes each, so many. The first one, and the one from which a loop goes on, have filter 0; no shift is above 12; the last
-- one alone has the end bit, and with looping the loop bit.
pub record AreAllowedBlocks (count loop_block : ℕ) (looped : Bool) (blocks : List ℕ) : Type 0 where
  pub size : length blocks ≡ 9 * count
  pub headers : (index : ℕ) → index < count
      → IsHeaderByte (stands_alone index loop_block) (end_bits (index + 1 == count) looped) (slice_index blocks (9 * index))
