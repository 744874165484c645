-- When a cached block is the one that is asked for.
use Rattle.std.specs.Prelude.{◌≡◌, ℕ, ◌+◌, ◌*◌, ◌≤◌, ℤ}
use Rattle.num_fix.specs.SignedWords.{number_at}
use Rattle.brr_decode.specs.declared.cached_block.CachedBlock.{CachedBlock}

-- a block was decoded from such a header and such digits, from a group on or from one before it, after the samples p2 and p1
pub record WasDecodedFrom (block : CachedBlock) (header digits group : ℕ) (p1 p2 : ℤ) : Type 0 where
  pub header_is : block.header ≡ header
  pub digits_are : block.digits ≡ digits
  pub reaches_back : block.from ≤ group
  pub last : number_at block.row (4 * group + 1) ≡ p1
  pub before : number_at block.row (4 * group) ≡ p2
