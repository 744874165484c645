-- The blocks that stand one after another up to the first that ends.
use Rattle.std.specs.Prelude.{ℕ, zero, suc, ◌+◌, ◌%◌, List, if◌then◌else◌}
use Rattle.aram_core.specs.Memory.{byte_at}
use Rattle.brr_decode.specs.Header.{has_end}

-- how many blocks stand one after another from a block on, up to the first that has its end bit, and at most so many
abbrev pub blocks_to_end : List ℕ → (block most : ℕ) → ℕ
blocks_to_end memory block zero = 0
blocks_to_end memory block (suc most) = if has_end (byte_at memory block) then 1 else suc (blocks_to_end memory ((block + 9) % 0x10000) most)
