-- The chunks of a file, one by one.
use Rattle.std.proofs.Common.{◌≡◌, ℕ, zero, suc, ◌+◌, ◌-◌, ◌<◌, ◌≤◌, Bool, true, false, nat_lt, List, [], ◌∷◌, length, take, drop, refl, sym, ap, ◌∙◌, arith, if◌then◌else◌}
use Rattle.std.specs.Prelude.{codes, Ok, Err}
use Rattle.num_fix.specs.SignedWords.{signed_words}
use Rattle.wav_form.specs.Mono.{samples_of_chunks}
use Rattle.wav_form.specs.Seen.{PassesOver}
use Rattle.wav_form.specs.declared.refusal.WavRefusal.{WavRefusal}
use Rattle.wav_form.specs.declared.refusal.WavRefusal.TheVariants.{NoFormat, NoData}
use Rattle.std.proofs.lemmas.List.{length-drop, length-take}
use Rattle.std.proofs.lemmas.Bool.Decides.{nat_tests}
use Rattle.wav_form.specs.Chunks.{Chunk, first_chunk, chunk_length, is_named, is_cut, chunks_within, chunks_from}

-- any number that is enough gives the same chunks
enough : (m n place : ℕ) (bytes : List ℕ) → length bytes ≤ m → length bytes ≤ n → chunks_within m place bytes ≡ chunks_within n place bytes
enough zero zero place bytes hm hn = refl
enough zero (suc n) place bytes hm hn = let short : nat_lt (length bytes) 8 ≡ true = grind (arith, nat_tests, hm) in rw short refl
enough (suc m) zero place bytes hm hn = let short : nat_lt (length bytes) 8 ≡ true = grind (arith, nat_tests, hn) in rw short refl
enough (suc m) (suc n) place bytes hm hn =
    let chunk = first_chunk place bytes in
    let left : length (drop (chunk_length chunk) bytes) ≤ length bytes - 8 = let l = length-drop (chunk_length chunk) bytes in omega (arith, l) in
    let here : length (drop (chunk_length chunk) bytes) ≤ m = let l = length-drop (chunk_length chunk) bytes in omega (arith, l, hm) in
    let there : length (drop (chunk_length chunk) bytes) ≤ n = let l = length-drop (chunk_length chunk) bytes in omega (arith, l, hn) in
    ap (λ (rest : List Chunk). if nat_lt (length bytes) 8 then [] else chunk ∷ (if is_named (codes "data") chunk then [] else rest))
    (enough m n (place + chunk_length chunk) (drop (chunk_length chunk) bytes) here there)

-- the first chunk, and those after it
pub chunks_from-front : (place : ℕ) (bytes : List ℕ) → 8 ≤ length bytes
    → chunks_from place bytes ≡ first_chunk place bytes
    ∷ (if is_named (codes "data") (first_chunk place bytes) then [] else chunks_from (place + chunk_length (first_chunk place bytes)) (drop (chunk_length (first_chunk place bytes)) bytes))
unfolding chunks_from
chunks_from-front place bytes long = front (length bytes) long (omega arith)
  where
    front : (n : ℕ) → 8 ≤ length bytes → length bytes ≤ n → chunks_within n place bytes ≡ first_chunk place bytes
        ∷ (if is_named (codes "data") (first_chunk place bytes) then [] else chunks_within (length (drop (chunk_length (first_chunk place bytes)) bytes)) (place + chunk_length (first_chunk place bytes)) (drop (chunk_length (first_chunk place bytes)) bytes))
    front zero h within = absurd (omega arith)
    front (suc n) h within =
        let chunk = first_chunk place bytes in
        let some : nat_lt (length bytes) 8 ≡ false = grind (arith, nat_tests, h) in
        let here : length (drop (chunk_length chunk) bytes) ≤ n = let l = length-drop (chunk_length chunk) bytes in omega (arith, l, within, h) in
        rw some (ap (λ (rest : List Chunk). chunk ∷ (if is_named (codes "data") chunk then [] else rest)) (enough n (length (drop (chunk_length chunk) bytes)) (place + chunk_length chunk) (drop (chunk_length chunk) bytes) here (omega arith)))

-- fewer than eight bytes are the end
pub chunks_from-end : (place : ℕ) (bytes : List ℕ) → length bytes < 8 → chunks_from place bytes ≡ []
unfolding chunks_from
chunks_from-end place [] short = refl
chunks_from-end place (b ∷ bytes) short = let few : nat_lt (length (b ∷ bytes)) 8 ≡ true = grind (arith, nat_tests, short) in rw few refl

-- a chunk of samples ends the walk
pub walk_data : (has : Bool) (place : ℕ) (rest : List ℕ) (chunk : Chunk) → chunk ≡ first_chunk place rest → 8 ≤ length rest → is_named (codes "data") chunk ≡ true
    → samples_of_chunks has (chunks_from place rest) ≡ (if has then Ok (signed_words chunk.body) else Err NoFormat)
walk_data true place rest chunk is long named =
    let is_data : is_named (codes "data") (first_chunk place rest) ≡ true = ap (λ (c : Chunk). is_named (codes "data") c) (sym is) ∙ named in
    ap (λ (cs : List Chunk). samples_of_chunks true cs) (chunks_from-front place rest long) ∙ rw is_data (ap (λ (c : Chunk). Ok (signed_words c.body)) (sym is))
walk_data false place rest chunk is long named =
    let is_data : is_named (codes "data") (first_chunk place rest) ≡ true = ap (λ (c : Chunk). is_named (codes "data") c) (sym is) ∙ named in
    ap (λ (cs : List Chunk). samples_of_chunks false cs) (chunks_from-front place rest long) ∙ rw is_data refl

-- any other chunk is followed by those after it
after_other : (place : ℕ) (rest : List ℕ) (chunk : Chunk) → chunk ≡ first_chunk place rest → 8 ≤ length rest → is_named (codes "data") chunk ≡ false
    → chunks_from place rest ≡ chunk ∷ chunks_from (place + chunk_length chunk) (drop (chunk_length chunk) rest)
after_other place rest chunk is long named =
    let other : is_named (codes "data") (first_chunk place rest) ≡ false = ap (λ (c : Chunk). is_named (codes "data") c) (sym is) ∙ named in
    chunks_from-front place rest long
    ∙ ap (λ (b : Bool). first_chunk place rest ∷ (if b then [] else chunks_from (place + chunk_length (first_chunk place rest)) (drop (chunk_length (first_chunk place rest)) rest))) other
    ∙ ap (λ (c : Chunk). c ∷ chunks_from (place + chunk_length c) (drop (chunk_length c) rest)) (sym is)

pub walk_on : (has seen : Bool) (place : ℕ) (rest : List ℕ) (chunk : Chunk) → chunk ≡ first_chunk place rest → 8 ≤ length rest → is_named (codes "data") chunk ≡ false
    → PassesOver has chunk (Ok seen)
    → samples_of_chunks has (chunks_from place rest) ≡ samples_of_chunks seen (chunks_from (place + chunk_length chunk) (drop (chunk_length chunk) rest))
walk_on has seen place rest chunk is long named passes =
    ap (λ (cs : List Chunk). samples_of_chunks has cs) (after_other place rest chunk is long named)
    ∙ passes (chunks_from (place + chunk_length chunk) (drop (chunk_length chunk) rest))

pub walk_refused : (has : Bool) (refusal : WavRefusal) (place : ℕ) (rest : List ℕ) (chunk : Chunk) → chunk ≡ first_chunk place rest → 8 ≤ length rest → is_named (codes "data") chunk ≡ false
    → PassesOver has chunk (Err refusal) → samples_of_chunks has (chunks_from place rest) ≡ Err refusal
walk_refused has refusal place rest chunk is long named passes =
    ap (λ (cs : List Chunk). samples_of_chunks has cs) (after_other place rest chunk is long named)
    ∙ passes (chunks_from (place + chunk_length chunk) (drop (chunk_length chunk) rest))

pub walk_end : (has : Bool) (place : ℕ) (rest : List ℕ) → length rest < 8 → samples_of_chunks has (chunks_from place rest) ≡ Err (if has then NoData else NoFormat)
walk_end true place rest short = ap (λ (cs : List Chunk). samples_of_chunks true cs) (chunks_from-end place rest short)
walk_end false place rest short = ap (λ (cs : List Chunk). samples_of_chunks false cs) (chunks_from-end place rest short)

-- a chunk that isn't cut ends with the bytes, or with the byte after an odd body
pub whole_chunk : (place : ℕ) (rest : List ℕ) (chunk : Chunk) → chunk ≡ first_chunk place rest → 8 ≤ length rest → is_cut chunk ≡ false
    → chunk_length chunk ≤ length rest + 1
whole_chunk place rest chunk is long whole =
    let size_fits : chunk.size ≤ length chunk.body = grind (arith, nat_tests, whole) in
    let size : chunk.size ≡ (first_chunk place rest).size = ap (λ (c : Chunk). c.size) is in
    let body : length chunk.body ≡ length (take (first_chunk place rest).size (drop 8 rest)) = ap (λ (c : Chunk). length c.body) is in
    let taken = length-take (first_chunk place rest).size (drop 8 rest) in
    let left = length-drop 8 rest in
    omega (arith, size_fits, body, taken, left, long)
