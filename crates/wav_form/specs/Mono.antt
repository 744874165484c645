-- The samples of a file of RIFF/WAVE with one channel of 16 bits of PCM, or the first thing that is wrong with it (RIFF/WAVE; which
-- fields are looked at, and in which order, is own).
use Rattle.std.specs.Prelude.{ℕ, ◌&&◌, ◌==◌, Bool, true, false, List, [], ◌∷◌, length, take, drop, nat_le, codes, ℤ, Result, Ok, Err, if◌then◌else◌}
use Rattle.std.specs.Str.{bytes_eq}
use Rattle.byteorder.specs.Endian.{little_number}
use Rattle.num_fix.specs.SignedWords.{signed_words}
use Rattle.wav_form.specs.Chunks.{Chunk, is_named, is_cut, chunks_from}
use Rattle.wav_form.specs.declared.refusal.WavRefusal.{WavRefusal}
use Rattle.wav_form.specs.declared.refusal.WavRefusal.TheVariants.{NotWave, NoFormat, Format, NoData, Cut}

-- the body of a `fmt ` chunk: PCM, one channel, 16 bits; its rate, byte rate and block align are not looked at
abbrev pub is_mono_format : (body : List ℕ) → Bool
is_mono_format body =
    nat_le 16 (length body) && (little_number 2 body == 1) && (little_number 2 (drop 2 body) == 1) && (little_number 2 (drop 14 body) == 16)

-- what the chunks give, with the first `fmt ` chunk seen or not
abbrev pub samples_of_chunks : (has_format : Bool) → List Chunk → Result (List ℤ) WavRefusal
samples_of_chunks false [] = Err NoFormat
samples_of_chunks true [] = Err NoData
samples_of_chunks has_format (chunk ∷ chunks) =
    if is_named (codes "data") chunk then (if has_format then Ok (signed_words chunk.body) else Err NoFormat)
    else if is_cut chunk then Err (Cut chunk.place)
    else if has_format then samples_of_chunks true chunks
    else if is_named (codes "fmt ") chunk then (if is_mono_format chunk.body then samples_of_chunks true chunks else Err Format)
    else samples_of_chunks false chunks

-- the bytes begin as a WAV file; the size after `RIFF` is not looked at
abbrev pub is_wave : (bytes : List ℕ) → Bool
is_wave bytes = nat_le 12 (length bytes) && (bytes_eq (take 4 bytes) (codes "RIFF") && bytes_eq (take 4 (drop 8 bytes)) (codes "WAVE"))

-- the samples of a file, or the first thing that is wrong with it
abbrev pub mono_samples : (bytes : List ℕ) → Result (List ℤ) WavRefusal
mono_samples bytes = if is_wave bytes then samples_of_chunks false (chunks_from 12 (drop 12 bytes)) else Err NotWave
