-- What calls leave of the rooms of a steady host: each output has as many bytes less as were written to it.
use Rattle.std.proofs.Common.{◌≡◌, ◌≢◌, ℕ, ◌-◌, Bool, true, false, List, [], ◌∷◌, ◌++◌, length, refl, sym, ap, ◌∙◌, subst, arith, get_or, if◌then◌else◌, length-append, length-set}
use Rattle.std.specs.Prelude.{◌==◌, slice_index}
use Rattle.std.proofs.lemmas.List.{get_or-set_other}
use Rattle.snd_host.specs.Calls.{Call, opened, not_opened, read, not_read, created, not_created, wrote, not_written, finished, not_finished}
use Rattle.snd_host.specs.Host.{rooms_less}
use Rattle.snd_host.proofs.Writes.{index-rooms_less}
use Rattle.command_runner.specs.OutputCalls.{bytes_to}
use Rattle.snd_host.specs.History.{rooms_after, rooms_over}

-- the room of another output stays
pub index-rooms_less_other : (rooms : List ℕ) (file k count : ℕ) → k ≢ file → get_or (rooms_less rooms file count) k 0 ≡ get_or rooms k 0
index-rooms_less_other rooms file k count other = get_or-set_other rooms file k (get_or rooms file 0 - count) 0 other

-- as many outputs have a room
pub length-rooms_over : (calls : List Call) (rooms : List ℕ) → length (rooms_over calls rooms) ≡ length rooms
length-rooms_over [] rooms = refl
length-rooms_over (c ∷ calls) rooms = length-rooms_over calls (rooms_after c rooms) ∙ after c
  where
    after : (c : Call) → length (rooms_after c rooms) ≡ length rooms
    after (wrote f bytes) = length-set rooms f _
    after (opened name n) = refl
    after (not_opened name) = refl
    after (read n room bytes) = refl
    after (not_read n room) = refl
    after (created name n) = refl
    after (not_created name) = refl
    after (not_written n piece) = refl
    after (finished n) = refl
    after (not_finished n) = refl

-- the room of an output after a write to this one or to another
less : (rooms : List ℕ) (f file : ℕ) (bytes more : List ℕ) (b : Bool) → (f == file) ≡ b →
    slice_index (rooms_less rooms f (length bytes)) file - length more ≡ slice_index rooms file - length (if b then bytes ++ more else more)
less rooms f file bytes more true is =
    let same : f ≡ file = grind arith in
    subst (λ (k : ℕ). slice_index (rooms_less rooms k (length bytes)) file - length more ≡ slice_index rooms file - length (bytes ++ more)) (sym same)
    (omega (arith, index-rooms_less rooms file (length bytes), length-append bytes more))
less rooms f file bytes more false is =
    let other : file ≢ f = λ (same : file ≡ f). absurd (grind arith) in
    ap (λ (k : ℕ). k - length more) (index-rooms_less_other rooms f file (length bytes) other)

pub index-rooms_over : (calls : List Call) (rooms : List ℕ) (file : ℕ) → slice_index (rooms_over calls rooms) file ≡ slice_index rooms file - length (bytes_to file calls)
index-rooms_over [] rooms file = omega arith
index-rooms_over (wrote f bytes ∷ calls) rooms file = index-rooms_over calls (rooms_less rooms f (length bytes)) file ∙ less rooms f file bytes (bytes_to file calls) (f == file) refl
index-rooms_over (opened name n ∷ calls) rooms file = index-rooms_over calls rooms file
index-rooms_over (not_opened name ∷ calls) rooms file = index-rooms_over calls rooms file
index-rooms_over (read n room bytes ∷ calls) rooms file = index-rooms_over calls rooms file
index-rooms_over (not_read n room ∷ calls) rooms file = index-rooms_over calls rooms file
index-rooms_over (created name n ∷ calls) rooms file = index-rooms_over calls rooms file
index-rooms_over (not_created name ∷ calls) rooms file = index-rooms_over calls rooms file
index-rooms_over (not_written n piece ∷ calls) rooms file = index-rooms_over calls rooms file
index-rooms_over (finished n ∷ calls) rooms file = index-rooms_over calls rooms file
index-rooms_over (not_finished n ∷ calls) rooms file = index-rooms_over calls rooms file

-- where nothing was written to an output, it has the same room
pub index-rooms_over_unwritten : (calls : List Call) (rooms : List ℕ) (file : ℕ) → bytes_to file calls ≡ [] → slice_index (rooms_over calls rooms) file ≡ slice_index rooms file
index-rooms_over_unwritten calls rooms file none = let e = ap (length {A = ℕ}) none in omega (arith, index-rooms_over calls rooms file, e)
