-- What a stream of bytes is decoded to (raw blocks of nine bytes; how many there may be is own).
use Rattle.std.specs.Prelude.{ℕ, ◌%◌, ◌==◌, ◌&&◌, ℤ, List, length, Bool, Result, Ok, Err, nat_lt, nat_le, if◌then◌else◌}
use Rattle.brr_decode.specs.Kept.{samples_of}
use Rattle.brr_decode.specs.declared.stream.BrrRefusal.{BrrRefusal}
use Rattle.brr_decode.specs.declared.stream.BrrRefusal.TheVariants.{Length}

-- the most bytes of a stream: 7,281 blocks
abbrev pub longest_stream : ℕ
longest_stream = 65529

-- a length of one block or more, and not too many
abbrev pub is_stream_length : ℕ → Bool
is_stream_length n = nat_lt 0 n && (nat_le n longest_stream && (n % 9 == 0))

-- the samples of a stream, or why it isn't decoded
unfoldable pub decoded_stream : (bytes : List ℕ) → Result (List ℤ) BrrRefusal
decoded_stream bytes = if is_stream_length (length bytes) then Ok (samples_of bytes) else Err (Length (length bytes))
