-- The blocks of a sample in memory: nine bytes each, one after another, wrapping at the end of memory (Anomie's S-DSP document, BRR samples).
use Rattle.std.specs.Prelude.{ℕ, zero, suc, ◌+◌, ◌*◌, ◌%◌, List, [], ◌++◌, map, Bool, Option, Some, None, if◌then◌else◌}
use Rattle.std.specs.List.{range_with_len}
use Rattle.aram_core.specs.Memory.{byte_at}
use Rattle.brr_decode.specs.Header.{has_end, has_loop}

-- the address of a block of the sample that starts at `start`, counted from 0
abbrev pub block_address : (start block : ℕ) → ℕ
block_address start block = (start + 9 * block) % 0x10000

-- the bytes of a block
abbrev pub block_bytes : (memory : List ℕ) → (start block : ℕ) → List ℕ
block_bytes memory start block = map (λ place. byte_at memory (block_address start block + place)) (range_with_len 0 9)

-- the bytes of the first blocks
abbrev pub stream_of : (memory : List ℕ) → (start blocks : ℕ) → List ℕ
stream_of memory start zero = []
stream_of memory start (suc block) = stream_of memory start block ++ block_bytes memory start block

-- a block has its end bit, and its loop bit
abbrev pub ends_at : (memory : List ℕ) → (start block : ℕ) → Bool
ends_at memory start block = has_end (byte_at memory (block_address start block))

abbrev pub loops_at : (memory : List ℕ) → (start block : ℕ) → Bool
loops_at memory start block = has_loop (byte_at memory (block_address start block))

-- the first of n numbers, from `from` on, that passes a test
abbrev pub first_of : (passes : ℕ → Bool) → (from n : ℕ) → Option ℕ
first_of passes from zero = None
first_of passes from (suc n) = if passes from then Some from else first_of passes (from + 1) n
