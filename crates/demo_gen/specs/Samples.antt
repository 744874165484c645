-- Eight samples of sixteen BRR blocks, one after another from 1000h on, and the directory of them (the choice of the bytes is own;
-- the header's bits: Anomie's S-DSP Doc, BRR samples).
use Rattle.std.specs.Prelude.{ℕ, ◌+◌, ◌*◌, ◌/◌, ◌%◌, ◌==◌, List, [], ◌∷◌, ◌++◌, if◌then◌else◌}
use Rattle.demo_gen.specs.Draws.{draw, joined}

-- the filter of a block by a drawn byte; the first block of a sample has filter 0
abbrev pub block_filter : (byte block : ℕ) → ℕ
block_filter byte block = if block == 0 then 0 else byte / 16 % 4

-- the loop bit and the end bit of a block: the last block of a sample has both
abbrev pub block_ends : (block : ℕ) → ℕ
block_ends block = if block == 15 then 3 else 0

-- the header of a block by a drawn byte: a shift of 4 to 10, the filter, and the end
abbrev pub block_header : (byte block : ℕ) → ℕ
block_header byte block = 16 * (4 + byte % 7) + 4 * block_filter byte block + block_ends block

-- the byte at a place of the samples by a drawn byte: each block has nine bytes, and the first of them is its header
abbrev pub sample_byte : (place byte : ℕ) → ℕ
sample_byte place byte = if place % 9 == 0 then block_header byte (place / 9 % 16) else byte

-- as many bytes of the samples, from a place on, by draws from the state s on
abbrev pub sample_bytes : (place count s : ℕ) → List ℕ
sample_bytes place count s = joined count (λ k. sample_byte (place + k) (draw s k) ∷ [])

-- a word, low byte first
abbrev pub word : ℕ → List ℕ
word w = w % 256 ∷ w / 256 ∷ []

-- the directory: of each sample where it starts, and where it goes on when it has ended, which is its start
abbrev pub directory_entry : (sample : ℕ) → List ℕ
directory_entry sample = word (0x1000 + 0x90 * sample) ++ word (0x1000 + 0x90 * sample)

abbrev pub directory : List ℕ
directory = joined 8 directory_entry
