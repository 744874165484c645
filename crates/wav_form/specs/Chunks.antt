-- The chunks of a file of RIFF/WAVE: a name of four bytes, the size of the body, the body, and one byte more where the size is odd.
use Rattle.std.specs.Prelude.{ℕ, zero, suc, ◌+◌, ◌%◌, Bool, List, [], ◌∷◌, length, take, drop, nat_lt, codes, if◌then◌else◌}
use Rattle.std.specs.Str.{bytes_eq}
use Rattle.byteorder.specs.Endian.{little_number}

-- A chunk: its name, the place of its name in the file, the size that it gives, and its body as far as the file has it.
pub record Chunk : Type 0 where
  pub name : List ℕ
  pub place : ℕ
  pub size : ℕ
  pub body : List ℕ

-- the chunk at the front of bytes
abbrev pub first_chunk : (place : ℕ) → (bytes : List ℕ) → Chunk
first_chunk place bytes =
    let size = little_number 4 (drop 4 bytes) in
    record { name = take 4 bytes; place = place; size = size; body = take size (drop 8 bytes) }

-- how many bytes a chunk takes
abbrev pub chunk_length : Chunk → ℕ
chunk_length chunk = 8 + (chunk.size + chunk.size % 2)

abbrev pub is_named : List ℕ → Chunk → Bool
is_named name chunk = bytes_eq chunk.name name

-- the body runs past the end of the file
abbrev pub is_cut : Chunk → Bool
is_cut chunk = nat_lt (length chunk.body) chunk.size

-- The chunks from a place on, at most so many, up to and with the first one named `data`. Fewer than eight bytes are the end.
abbrev pub chunks_within : (most place : ℕ) → (bytes : List ℕ) → List Chunk
chunks_within zero place bytes = []
chunks_within (suc most) place bytes =
    if nat_lt (length bytes) 8 then []
    else
    let chunk = first_chunk place bytes in
    chunk ∷ (if is_named (codes "data") chunk then [] else chunks_within most (place + chunk_length chunk) (drop (chunk_length chunk) bytes))

-- all of them: each takes a byte at least
unfoldable pub chunks_from : (place : ℕ) → (bytes : List ℕ) → List Chunk
chunks_from place bytes = chunks_within (length bytes) place bytes
