-- Words of the contracts of the parts of reading; the promise on reading doesn't speak of them.
use Rattle.std.specs.Prelude.{◌≡◌, Bool, List, ◌∷◌, Result, Ok, Err}
use Rattle.wav_form.specs.Chunks as chunks
use Rattle.wav_form.specs.Mono.{samples_of_chunks}
use Rattle.wav_form.specs.declared.chunk.Chunk.{Chunk}
use Rattle.wav_form.specs.declared.refusal.WavRefusal.{WavRefusal}

-- the chunk that the code holds
abbrev pub chunk_of : Chunk → chunks.Chunk
chunk_of chunk = record { name = chunk.name.now; place = chunk.place; size = chunk.size; body = chunk.body.now }

-- A chunk other than that of the samples is skipped, with the format seen or not from then on, or it is refused.
abbrev pub PassesOver : (has_format : Bool) → chunks.Chunk → Result Bool WavRefusal → Type 0
PassesOver has_format chunk (Ok seen) = (others : List chunks.Chunk) → samples_of_chunks has_format (chunk ∷ others) ≡ samples_of_chunks seen others
PassesOver has_format chunk (Err refusal) = (others : List chunks.Chunk) → samples_of_chunks has_format (chunk ∷ others) ≡ Err refusal
