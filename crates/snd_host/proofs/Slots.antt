-- The outputs of a host in memory.
use Rattle.std.proofs.Common.{◌≡◌, ◌≢◌, ℕ, zero, suc, ◌-◌, ◌<◌, Bool, false, List, [], ◌∷◌, ◌++◌, length, get_or, set, map, Some, refl, sym, ◌∙◌, ap, subst, arith}
use Rattle.std.specs.Prelude.{slice_get}
use Rattle.std.specs.Option.{option_map_or}
use Rattle.std.proofs.lemmas.List.{length-map, map-append, append_assoc}
use Rattle.std.proofs.lemmas.Option.{slice_get_within}
use Rattle.snd_host.specs.Host.{Output, IsOpen, outputs_with, rooms_less}
use Rattle.snd_host.specs.Parts.{output_of}
use Rattle.snd_host.specs.declared.outputs.Slot.{Slot}
use Rattle.snd_host.specs.declared.outputs.Spare.{Spare}

-- an output that is neither the report nor the complaint was created
number_is : (n : ℕ) → n ≢ 0 → n ≢ 1 → n ≡ suc (suc (n - 2))
number_is n not_report not_complaint = omega arith

open_created : (ended : List Bool) (n : ℕ) → n ≢ 0 → n ≢ 1 → IsOpen ended n → slice_get ended (n - 2) ≡ Some false
open_created ended n not_report not_complaint open_yet = subst (λ (k : ℕ). IsOpen ended k) (number_is n not_report not_complaint) open_yet

-- a slot that is replaced by one with more bytes
pub grown_slots : (slots : List Slot) (place : ℕ) (slot new : Slot) (bytes : List ℕ) → place < length slots → slot ≡ get_or slots place slot → output_of new ≡ record (output_of slot) { bytes = slot.sink.bytes.items ++ bytes } →
    map output_of (set slots place new) ≡ outputs_with (map output_of slots) place bytes
grown_slots [] place slot new bytes within is more = absurd (omega arith)
grown_slots (s ∷ slots) zero slot new bytes within is more = ap (λ (o : Output). o ∷ map output_of slots) (more ∙ ap (λ (t : Slot). record (output_of t) { bytes = t.sink.bytes.items ++ bytes }) is)
grown_slots (s ∷ slots) (suc place) slot new bytes within is more = ap (λ (l : List Output). output_of s ∷ l) (grown_slots slots place slot new bytes (omega arith) is more)

-- a number that a slot replaced keeps
pub same_at : {A : Type 0} (f : Slot → A) (slots : List Slot) (place : ℕ) (slot new : Slot) → slot ≡ get_or slots place slot → f new ≡ f slot → map f (set slots place new) ≡ map f slots
same_at f [] place slot new is same = refl
same_at f (s ∷ slots) zero slot new is same = ap (λ a. a ∷ map f slots) (same ∙ ap f is)
same_at f (s ∷ slots) (suc place) slot new is same = ap (λ l. f s ∷ l) (same_at f slots place slot new is same)

-- the room of a created output
pub room_index : (slots : List Slot) (rest : List ℕ) (place : ℕ) (slot : Slot) → place < length slots → slot ≡ get_or slots place slot → get_or (map (λ s. s.sink.room) slots ++ rest) place 0 ≡ slot.sink.room
room_index [] rest place slot within is = absurd (omega arith)
room_index (s ∷ slots) rest zero slot within is = ap (λ (t : Slot). t.sink.room) (sym is)
room_index (s ∷ slots) rest (suc place) slot within is = room_index slots rest place slot (omega arith) is

pub room_set : (slots : List Slot) (rest : List ℕ) (place : ℕ) (new : Slot) → place < length slots → map (λ s. s.sink.room) (set slots place new) ++ rest ≡ set (map (λ s. s.sink.room) slots ++ rest) place new.sink.room
room_set [] rest place new within = absurd (omega arith)
room_set (s ∷ slots) rest zero new within = refl
room_set (s ∷ slots) rest (suc place) new within = ap (λ (l : List ℕ). s.sink.room ∷ l) (room_set slots rest place new (omega arith))

-- for each slot, whether it was ended
abbrev pub flags_of : List Slot → List Bool
flags_of slots = map (λ slot. slot.ended) slots

pub slot_there : (slots : List Slot) (place : ℕ) → slice_get (flags_of slots) place ≡ Some false → place < length slots
slot_there slots place h = omega (arith, slice_get_within (flags_of slots) place false h, length-map slots (λ slot. slot.ended))

-- the number of an output that was created: its place among the created ones, after the report and the complaint
pub record IsCreated (slots : List Slot) (n : ℕ) : Type 0 where
  pub number : n ≡ suc (suc (n - 2))
  pub within : n - 2 < length slots

pub created_there : (slots : List Slot) (n : ℕ) → n ≢ 0 → n ≢ 1 → IsOpen (flags_of slots) n → IsCreated slots n
created_there slots n not_report not_complaint open_yet = record {
  number = number_is n not_report not_complaint;
  within = slot_there slots (n - 2) (open_created (flags_of slots) n not_report not_complaint open_yet);
}

-- the rooms of created and not yet created outputs stay in their order
pub rooms_created : (slots later : List Slot) (spares rest : List Spare) (spare : Spare) (slot : Slot) → later ≡ slots ++ slot ∷ [] → spares ≡ spare ∷ rest → slot.sink.room ≡ spare.room →
    map (λ s. s.sink.room) later ++ map (λ s. s.room) rest ≡ map (λ s. s.sink.room) slots ++ map (λ s. s.room) spares
rooms_created slots later spares rest spare slot pushed popped same =
    ap (λ (l : List Slot). map (λ s. s.sink.room) l ++ map (λ s. s.room) rest) pushed
    ∙ ap (λ (l : List ℕ). l ++ map (λ s. s.room) rest) (map-append (λ (s : Slot). s.sink.room) slots (slot ∷ []))
    ∙ append_assoc (map (λ s. s.sink.room) slots) (slot.sink.room ∷ []) (map (λ s. s.room) rest)
    ∙ ap (λ (n : ℕ). map (λ s. s.sink.room) slots ++ (n ∷ map (λ s. s.room) rest)) same
    ∙ ap (λ (l : List Spare). map (λ s. s.sink.room) slots ++ map (λ s. s.room) l) (sym popped)

-- what a created output was given
pub created_bytes : (slots : List Slot) (place : ℕ) → option_map_or (λ output. output.bytes) (slice_get (map output_of slots) place) [] ≡ option_map_or (λ slot. slot.sink.bytes.items) (slice_get slots place) []
created_bytes [] place = refl
created_bytes (s ∷ slots) zero = refl
created_bytes (s ∷ slots) (suc place) = created_bytes slots place

-- the outputs and the rooms after a write to a created output
module _ (slots : List Slot) (place : ℕ) (slot new : Slot) (piece : List ℕ) (within : place < length slots) (is : slot ≡ get_or slots place slot) where
  pub slot_lowered : (report complaint : ℕ) (rest : List ℕ) → new.sink.room ≡ slot.sink.room - length piece →
      report ∷ complaint ∷ (map (λ s. s.sink.room) (set slots place new) ++ rest) ≡ rooms_less (report ∷ complaint ∷ (map (λ s. s.sink.room) slots ++ rest)) (suc (suc place)) (length piece)
  slot_lowered report complaint rest less =
      let rooms = map (λ (s : Slot). s.sink.room) slots ++ rest in
      let room : get_or rooms place 0 ≡ slot.sink.room = room_index slots rest place slot within is in
      ap (λ (l : List ℕ). report ∷ complaint ∷ l) (room_set slots rest place new within ∙ ap (λ (n : ℕ). set rooms place n) (less ∙ ap (λ (n : ℕ). n - length piece) (sym room)))
