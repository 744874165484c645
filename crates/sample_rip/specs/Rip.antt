-- A sample of the directory: where it starts, how many blocks it has, and how it ends (the limit of its blocks is own).
use Rattle.std.specs.Prelude.{ℕ, ◌+◌, ◌*◌, ◌==◌, ℤ, List, Option, Some, None, if◌then◌else◌}
use Rattle.brr_decode.specs.Kept.{samples_of}
use Rattle.brr_encode.specs.Encoding.{max_blocks}
use Rattle.voice_unit.specs.Directory.{start_word, loop_word}
use Rattle.sample_rip.specs.Blocks.{block_address, stream_of, ends_at, loops_at, first_of}
use Rattle.sample_rip.specs.declared.found.RipFound.{RipFound}
use Rattle.sample_rip.specs.declared.found.RipEnd.{RipEnd}
use Rattle.sample_rip.specs.declared.found.RipEnd.TheVariants.{NoLoop, Loop, Outside, Open}

-- the first block with its end bit, among as many as a sample can have
unfoldable pub last_block : (memory : List ℕ) → (start : ℕ) → Option ℕ
last_block memory start = first_of (ends_at memory start) 0 max_blocks

-- the first block at an address, among the blocks up to a last one
unfoldable pub block_at : (start address last : ℕ) → Option ℕ
block_at start address last = first_of (λ block. block_address start block == address) 0 (last + 1)

-- the end of a sample that loops, by the block to loop to: the number of its first sample, or outside where no block is there
abbrev pub loop_end : (block : Option ℕ) → RipEnd
loop_end None = Outside
loop_end (Some block) = Loop (16 * block)

-- how many blocks a sample has, by its last block
abbrev pub block_count : (last : Option ℕ) → ℕ
block_count None = max_blocks
block_count (Some last) = last + 1

-- how a sample ends, by its last block
abbrev pub end_after : (memory : List ℕ) → (start loop_address : ℕ) → (last : Option ℕ) → RipEnd
end_after memory start loop_address None = Open
end_after memory start loop_address (Some last) = if loops_at memory start last then loop_end (block_at start loop_address last) else NoLoop

-- the sample that starts at an address and loops to another
abbrev pub found_from : (memory : List ℕ) → (start loop_address : ℕ) → RipFound
found_from memory start loop_address = record {
  start = start;
  blocks = block_count (last_block memory start);
  «end» = end_after memory start loop_address (last_block memory start);
}

-- the sample of an entry of the directory
unfoldable pub rip_found : (memory : List ℕ) → (dir entry : ℕ) → RipFound
rip_found memory dir entry = found_from memory (start_word dir entry memory) (loop_word dir entry memory)

-- its samples
unfoldable pub rip_samples : (memory : List ℕ) → RipFound → List ℤ
rip_samples memory found = samples_of (stream_of memory found.start found.blocks)
