-- A call of a host in memory, as it is noted: it agrees with what the names hold, since what is left is what the calls left, and with what a steady host
-- does, since a host none of whose later calls is to fail has its rooms alone to fail by.
use Rattle.std.proofs.Common.{◌≡◌, ◌≢◌, ℕ, zero, suc, ◌+◌, ◌≤◌, ◌<◌, Bool, false, List, [], ◌∷◌, ◌++◌, length, take, drop, min, map, Some, refl, sym, ap, ◌∙◌, subst, arith, length-take}
use Rattle.std.proofs.lemmas.Grind.{common_steps}
use Rattle.std.proofs.lemmas.List.{length-map, length-append}
use Rattle.std.proofs.lemmas.Option.{same_Some}
use Rattle.snd_host.specs.Calls.{Call, read, wrote}
use Rattle.snd_host.specs.Host.{HostState, Files, Given, IsOpen, IsPrefix, bytes_given, given_with}
use Rattle.snd_host.specs.History.{IsTrueOf, IsSteadyCall, rooms_after, ended_of, given_of, left_of}
use Rattle.snd_host.specs.Follows.{Makes}
use Rattle.snd_host.specs.Files.{bytes_at}
use Rattle.snd_host.specs.Parts.{left_by, output_of}
use Rattle.snd_host.specs.Memory.{memory_state, rooms_of, names_of, fails_later}
use Rattle.snd_host.specs.declared.memory.MemHost.{MemHost}
use Rattle.snd_host.specs.declared.reading.Reading.{Reading}
use Rattle.std.specs.Prelude.{slice_get}
use Rattle.std.specs.Option.{option_map_or}
use Rattle.snd_host.proofs.Slots.{IsCreated, created_there, slot_there, created_bytes}
use Rattle.snd_host.proofs.Steady.{steady_of, steady_of-change, known_rooms}

pub mem_makes : (host : MemHost) (call : Call) (b : HostState) (next : ℕ) (after : List ℕ) → b.calls ≡ call ∷ host.log.calls → b.holds ≡ Some (names_of host) → b.steady ≡ steady_of host.failing.items next after → host.calls ≤ next →
    after ≡ rooms_after call (rooms_of host) → IsTrueOf (names_of host) host.log.calls call → (fails_later host.failing.items host.calls ≡ false → IsSteadyCall (Some (names_of host)) (rooms_of host) host.log.calls call) → Makes call (memory_state host) b
mem_makes host call b next after noted same steady_after le rooms_are is_true fair = record {
  calls = noted;
  holds = same;
  true = λ files known. subst (λ (f : Files). IsTrueOf f host.log.calls call) (same_Some (names_of host) files known) is_true;
  steady = λ rooms known.
      let k = known_rooms (fails_later host.failing.items host.calls) (rooms_of host) rooms known in (
        subst (λ (l : List ℕ). IsSteadyCall (Some (names_of host)) l host.log.calls call) k.1 (fair k.0),
        steady_after ∙ steady_of-change (rooms_after call) host.failing.items host.calls next (rooms_of host) after le rooms_are rooms known,
      );
}

-- What a read into the front of a buffer gives.

split_at : (n : ℕ) (l : List ℕ) → take n l ++ drop n l ≡ l
split_at n l = grind (arith, common_steps)

none_taken : (n : ℕ) (l : List ℕ) (room : ℕ) → n ≡ min (length l) room → take n l ≡ [] → 0 < room → l ≡ []
none_taken n [] room is none more = refl
none_taken n (x ∷ l) room is none more =
    let e = ap (length {A = ℕ}) none in
    absurd (omega (arith, length-take n (x ∷ l), e))

read_gives : (count : ℕ) (left buf new : List ℕ) → count ≡ min (length left) (length buf) → new ≡ take count left ++ drop count buf →
    IsPrefix (take count new) left × (take count new ≡ [] → 0 < length buf → left ≡ [])
read_gives count left buf new is copied =
    let front : take count new ≡ take count left = grind (arith, common_steps) in (
      record { rest = drop count left; split = ap (λ (l : List ℕ). l ++ drop count left) front ∙ split_at count left },
      λ none more. none_taken count left (length buf) is (sym front ∙ none) more,
    )

pub true_read : (host : MemHost) (reading : Reading) (file count : ℕ) (buf new : List ℕ) → host.last ≡ Some reading →
    count ≡ min (length (drop reading.at (bytes_at host.files.items reading.index))) (length buf) → new ≡ take count (drop reading.at (bytes_at host.files.items reading.index)) ++ drop count buf →
    IsTrueOf (names_of host) host.log.calls (read file (length buf) (take count new))
true_read host reading file count buf new is counted copied =
    let left : left_of (names_of host) host.log.calls ≡ drop reading.at (bytes_at host.files.items reading.index) = host.left_is ∙ ap (left_by host.files.items) is in
    subst (λ (l : List ℕ). IsPrefix (take count new) l × (take count new ≡ [] → 0 < length buf → l ≡ [])) (sym left) (read_gives count _ buf new counted copied)

-- Where no room is left to take, the outputs have them all.
pub full_rooms : (host : MemHost) → length host.spare.items ≡ 0 → length (rooms_of host) ≤ length (ended_of host.log.calls) + 2
full_rooms host none =
    omega (arith, ap (length {A = Bool}) host.ended_is, length-append (map (λ slot. slot.sink.room) host.created.items) (map (λ spare. spare.room) host.spare.items), length-map host.created.items (λ slot. slot.sink.room), length-map host.spare.items (λ spare. spare.room), length-map host.created.items (λ slot. slot.ended), none)

-- What the outputs were given.

-- what the sink of an output holds
abbrev pub held_in : MemHost → (file : ℕ) → List ℕ
held_in host zero = host.report.bytes.items
held_in host (suc zero) = host.complaint.bytes.items
held_in host (suc (suc place)) = option_map_or (λ slot. slot.sink.bytes.items) (slice_get host.created.items place) []

pub bytes_given-held : (host : MemHost) (file : ℕ) → bytes_given (given_of host.log.calls) file ≡ held_in host file
bytes_given-held host zero = ap (λ (g : Given). g.report) host.given_is
bytes_given-held host (suc zero) = ap (λ (g : Given). g.complaint) host.given_is
bytes_given-held host (suc (suc place)) = ap (λ (g : Given). bytes_given g (suc (suc place))) host.given_is ∙ created_bytes host.created.items place

-- an output that can be written was created, where it is neither the report nor the complaint
pub open_there : (host : MemHost) (file : ℕ) → file ≢ 0 → file ≢ 1 → IsOpen (ended_of host.log.calls) file → IsCreated host.created.items file
open_there host file not_report not_complaint open_yet =
    created_there host.created.items file not_report not_complaint (subst (λ (l : List Bool). IsOpen l file) host.ended_is open_yet)

pub end_there : (host : MemHost) (place : ℕ) → slice_get (ended_of host.log.calls) place ≡ Some false → place < length host.created.items
end_there host place open_yet = slot_there host.created.items place (subst (λ (l : List Bool). slice_get l place ≡ Some false) host.ended_is open_yet)

-- what the outputs were given once a piece was written to one
pub given_now : (host : MemHost) (calls : List Call) (file number : ℕ) (bytes piece : List ℕ) (after : Given) → calls ≡ wrote file bytes ∷ host.log.calls → file ≡ number → bytes ≡ piece →
    after ≡ given_with (record { report = host.report.bytes.items; complaint = host.complaint.bytes.items; created = map output_of host.created.items }) number piece → given_of calls ≡ after
given_now host calls file number bytes piece after noted same_file same_bytes is =
    ap given_of noted ∙ ap (λ (g : Given). given_with g file bytes) host.given_is ∙ (λ i. given_with (record { report = host.report.bytes.items; complaint = host.complaint.bytes.items; created = map output_of host.created.items }) (same_file i) (same_bytes i)) ∙ sym is
