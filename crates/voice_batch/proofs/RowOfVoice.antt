-- The row of kept samples that a voice reads in a batch.
use Rattle.std.proofs.Common.{◌≡◌, ℕ, zero, suc, ◌+◌, ◌-◌, ◌*◌, ◌/◌, ◌%◌, ◌<◌, ◌≤◌, ◌==◌, List, [], ◌∷◌, ◌++◌, Bool, true, false, ℤ, pos, length, take, drop, get_or, if◌then◌else◌, refl, ap, sym, ◌∙◌, add-one, append_assoc, length-append, length-drop, arith}
use Rattle.std.proofs.lemmas.List.{get_or-reverse, drop-drop, drop_at, get_or-drop, get_or_append_left, take-append-drop, get_or-append-add, length-take-le}
use Rattle.std.proofs.lemmas.Bool.Decides.{nat_tests}
use Rattle.num_fix.specs.SignedWords.{number_at}
use Rattle.aram_core.specs.Memory.{byte_at}
use Rattle.brr_decode.specs.Header.{next_block}
use Rattle.brr_decode.specs.Kept.{Digit, sample_from_end, with_kept, with_all_kept, digits_under, with_group}
use Rattle.voice_unit.specs.Directory.{loop_word}
use Rattle.voice_unit.specs.Voice.{VoiceState, interpolation, needs_group, after_decoding, at_next_group, after_reading, after_pitch, after_delay, after_envelope, step_header, step_pitch, pitch_of, is_keyed, voice_step}
use Rattle.voice_unit.specs.declared.interface.VoiceRegs.{VoiceRegs}
use Rattle.voice_unit.specs.declared.interface.VoiceIn.{VoiceIn}
use Rattle.voice_batch.specs.declared.row.Place.{Place}
use Rattle.voice_unit.specs.Batch.{steps}
use Rattle.voice_batch.specs.Row.{next_place, place_after, kept_row, next_phase, groups_before, PlaysOn, row_of, place_of, StandsAt}

-- the end of a list doesn't look at what stands before its last samples
from_end-append : (xs s : List ℤ) (k : ℕ) → k < length s → sample_from_end (xs ++ s) k ≡ sample_from_end s k
from_end-append xs s k within =
    let whole : length (xs ++ s) ≡ length xs + length s = length-append xs s in
    let at : length (xs ++ s) - 1 - k ≡ length xs + (length s - 1 - k) = omega (arith, whole, within) in
    get_or-reverse (xs ++ s) k (pos 0) (omega (arith, whole, within))
    ∙ ap (λ (n : ℕ). get_or (xs ++ s) n (pos 0)) at
    ∙ get_or-append-add xs s (length s - 1 - k) (pos 0)
    ∙ sym (get_or-reverse s k (pos 0) within)

with_kept-append : (xs s : List ℤ) (digit : Digit) → 2 ≤ length s → with_kept (xs ++ s) digit ≡ xs ++ with_kept s digit
unfolding with_kept
with_kept-append xs s digit two =
    rw (from_end-append xs s 0 (omega arith), from_end-append xs s 1 (omega arith)) (append_assoc xs s _)

length-with_kept : (s : List ℤ) (digit : Digit) → length (with_kept s digit) ≡ length s + 1
unfolding with_kept
length-with_kept s digit = length-append s _

all_kept-append : (xs s : List ℤ) (digits : List Digit) → 2 ≤ length s → with_all_kept (xs ++ s) digits ≡ xs ++ with_all_kept s digits
all_kept-append xs s [] two = refl
all_kept-append xs s (digit ∷ digits) two =
    rw (with_kept-append xs s digit two) (all_kept-append xs (with_kept s digit) digits (omega (arith, length-with_kept s digit)))

length-with_all_kept : (s : List ℤ) (digits : List Digit) → length (with_all_kept s digits) ≡ length s + length digits
length-with_all_kept s [] = omega arith
length-with_all_kept s (digit ∷ digits) = length-with_all_kept (with_kept s digit) digits ∙ omega (arith, length-with_kept s digit)

with_group-append : (xs s : List ℤ) (header b0 b1 : ℕ) → 2 ≤ length s → with_group (xs ++ s) header b0 b1 ≡ xs ++ with_group s header b0 b1
unfolding with_group
with_group-append xs s header b0 b1 two = all_kept-append xs s (digits_under header (b0 ∷ b1 ∷ [])) two

length-with_group : (s : List ℤ) (header b0 b1 : ℕ) → length (with_group s header b0 b1) ≡ length s + 4
unfolding with_group
length-with_group s header b0 b1 = length-with_all_kept s (digits_under header (b0 ∷ b1 ∷ []))

-- the samples that were there stay
kept-with_kept : (s : List ℤ) (digit : Digit) (i : ℕ) → i < length s → number_at (with_kept s digit) i ≡ number_at s i
unfolding with_kept
kept-with_kept s digit i within = get_or_append_left s _ (pos 0) i within

kept-with_all_kept : (s : List ℤ) (digits : List Digit) (i : ℕ) → i < length s → number_at (with_all_kept s digits) i ≡ number_at s i
kept-with_all_kept s [] i within = refl
kept-with_all_kept s (digit ∷ digits) i within =
    kept-with_all_kept (with_kept s digit) digits i (omega (arith, length-with_kept s digit)) ∙ kept-with_kept s digit i within

kept-with_group : (s : List ℤ) (header b0 b1 i : ℕ) → i < length s → number_at (with_group s header b0 b1) i ≡ number_at s i
unfolding with_group
kept-with_group s header b0 b1 i within = kept-with_all_kept s (digits_under header (b0 ∷ b1 ∷ [])) i within

-- the last samples of a list, with a group after them
drop-with_group : (row : List ℤ) (n header b0 b1 : ℕ) → n + 2 ≤ length row → drop 4 (with_group (drop n row) header b0 b1) ≡ drop (n + 4) (with_group row header b0 b1)
drop-with_group row n header b0 b1 some =
    let left : length (drop n row) ≡ length row - n = length-drop n row in
    let front : length (take n row) ≡ n = length-take-le n row (omega (arith, some)) in
    let parts : with_group row header b0 b1 ≡ take n row ++ with_group (drop n row) header b0 b1 =
    ap (λ (s : List ℤ). with_group s header b0 b1) (sym (take-append-drop n row)) ∙ with_group-append (take n row) (drop n row) header b0 b1 (omega (arith, left, some)) in
    sym (sym (drop-drop 4 n (with_group row header b0 b1)) ∙ ap (λ (s : List ℤ). drop 4 (drop n s)) parts
    ∙ ap (drop 4) (drop_at (take n row) (with_group (drop n row) header b0 b1) n front))

-- no group, and one more
pub kept_row-zero : (memory : List ℕ) (loop_word : ℕ) (first : Place) (samples : List ℤ) → kept_row memory loop_word first samples 0 ≡ samples
unfolding kept_row
kept_row-zero memory loop_word first samples = refl

pub kept_row-more : (memory : List ℕ) (loop_word : ℕ) (first : Place) (samples : List ℤ) (d : ℕ) → kept_row memory loop_word first samples (d + 1)
    ≡ with_group (kept_row memory loop_word first samples d) (byte_at memory (place_after memory loop_word first d).block)
    (byte_at memory ((place_after memory loop_word first d).block + (place_after memory loop_word first d).offset))
    (byte_at memory ((place_after memory loop_word first d).block + (place_after memory loop_word first d).offset + 1))
unfolding kept_row
kept_row-more memory loop_word first samples d = rw add-one refl

pub place_after-zero : (memory : List ℕ) (loop_word : ℕ) (first : Place) → place_after memory loop_word first 0 ≡ first
unfolding place_after
place_after-zero memory loop_word first = refl

pub place_after-more : (memory : List ℕ) (loop_word : ℕ) (first : Place) (d : ℕ) → place_after memory loop_word first (d + 1) ≡ next_place memory loop_word (place_after memory loop_word first d)
unfolding place_after
place_after-more memory loop_word first d = rw add-one refl

module _ (memory : List ℕ) (loop_word : ℕ) (first : Place) (samples : List ℤ) where
  pub length-kept_row : (d : ℕ) → length (kept_row memory loop_word first samples d) ≡ length samples + 4 * d
  unfolding kept_row
  length-kept_row zero = omega arith
  length-kept_row (suc d) = length-with_group (kept_row memory loop_word first samples d) _ _ _ ∙ omega (arith, length-kept_row d)

  -- a row with more groups begins with the row
  pub row_longer : (more d i : ℕ) → i < length samples + 4 * d → number_at (kept_row memory loop_word first samples (more + d)) i ≡ number_at (kept_row memory loop_word first samples d) i
  unfolding kept_row
  row_longer zero d i within = let same : 0 + d ≡ d = omega arith in rw same refl
  row_longer (suc more) d i within =
      let next : suc more + d ≡ suc (more + d) = omega arith in
      let short : i < length (kept_row memory loop_word first samples (more + d)) = omega (arith, length-kept_row (more + d)) in
      rw next (kept-with_group (kept_row memory loop_word first samples (more + d)) _ _ _ i short ∙ row_longer more d i within)

  -- the last of a row, with one group more
  drop-kept_row : (d : ℕ) → 2 ≤ length samples
      → drop 4 (with_group (drop (4 * d) (kept_row memory loop_word first samples d)) (byte_at memory (place_after memory loop_word first d).block)
      (byte_at memory ((place_after memory loop_word first d).block + (place_after memory loop_word first d).offset))
      (byte_at memory ((place_after memory loop_word first d).block + (place_after memory loop_word first d).offset + 1)))
      ≡ drop (4 * suc d) (kept_row memory loop_word first samples (suc d))
  unfolding kept_row
  drop-kept_row d two =
      let whole = length-kept_row d in
      let four : 4 * d + 4 ≡ 4 * suc d = omega arith in
      rw (← four) (drop-with_group (kept_row memory loop_word first samples d) (4 * d) _ _ _ (omega (arith, whole, two)))

-- where a voice stands that has read so many groups: its samples are the last of the row, and its position shows its phase in it
record IsAt (memory : List ℕ) (loop_word : ℕ) (first : Place) (samples : List ℤ) (d total : ℕ) (voice : VoiceState) : Type 0 where
  last : voice.samples ≡ drop (4 * d) (kept_row memory loop_word first samples d)
  place : place_of voice ≡ place_after memory loop_word first d
  position : voice.position + 0x4000 * d ≡ total
  within : voice.position < 0x8000

-- a step's reading and moving on
abbrev read_step : (memory : List ℕ) → (loop_word pitch : ℕ) → VoiceState → VoiceState
read_step memory loop_word pitch voice = after_pitch (after_reading voice memory (byte_at memory voice.block) loop_word) pitch

next-place : (memory : List ℕ) (loop_word : ℕ) (voice : VoiceState) → place_of (at_next_group voice (byte_at memory voice.block) loop_word) ≡ next_place memory loop_word (place_of voice)
unfolding at_next_group
next-place memory loop_word voice = by (voice.offset == 7)
  where
    by : (b : Bool)
        → place_of (if b then record voice { offset = 1; block = next_block (byte_at memory voice.block) voice.block loop_word } else record voice { offset = voice.offset + 2 })
        ≡ (if b then record { block = next_block (byte_at memory voice.block) voice.block loop_word; offset = 1 } else record { block = voice.block; offset = voice.offset + 2 })
    by true = refl
    by false = refl

next-same : {X : Type 0} (part : VoiceState → X) (voice : VoiceState) (header loop_word : ℕ)
    → ((block offset : ℕ) → part (record voice { offset = offset; block = block }) ≡ part voice) → part (at_next_group voice header loop_word) ≡ part voice
unfolding at_next_group
next-same part voice header loop_word same = by (voice.offset == 7)
  where
    by : (b : Bool) → part (if b then record voice { offset = 1; block = next_block header voice.block loop_word } else record voice { offset = voice.offset + 2 }) ≡ part voice
    by true = same (next_block header voice.block loop_word) 1
    by false = same voice.block (voice.offset + 2)

-- one step more
read_on : (memory : List ℕ) (loop_word : ℕ) (first : Place) (samples : List ℤ) (d phase pitch : ℕ) (voice : VoiceState) → 2 ≤ length samples
    → IsAt memory loop_word first samples d phase voice → IsAt memory loop_word first samples (phase / 0x4000) (next_phase phase pitch) (read_step memory loop_word pitch voice)
unfolding after_pitch after_reading after_decoding place_after
read_on memory loop_word first samples d phase pitch voice two at = by (needs_group voice) refl
  where
    header : ℕ
    header = byte_at memory voice.block

    decoded : VoiceState
    decoded = after_decoding voice memory header

    moved : (at_next_group decoded header loop_word).position ≡ voice.position
    moved = next-same (λ (w : VoiceState). w.position) decoded header loop_word (λ block offset. refl)

    newest : decoded.samples ≡ drop (4 * suc d) (kept_row memory loop_word first samples (suc d))
    newest =
        let there : Place = place_after memory loop_word first d in
        ap (λ (p : Place). drop 4 (with_group voice.samples (byte_at memory p.block) (byte_at memory (p.block + p.offset)) (byte_at memory (p.block + p.offset + 1)))) at.place
        ∙ ap (λ (s : List ℤ). drop 4 (with_group s (byte_at memory there.block) (byte_at memory (there.block + there.offset)) (byte_at memory (there.block + there.offset + 1)))) at.last
        ∙ drop-kept_row memory loop_word first samples d two

    -- what is left up to a phase, where so many groups are read before it
    part : voice.position % 0x4000 ≡ phase % 0x4000
    part = omega (arith, at.position)

    by : (b : Bool) → needs_group voice ≡ b
        → IsAt memory loop_word first samples (phase / 0x4000) (next_phase phase pitch) (after_pitch (if b then at_next_group decoded header loop_word else voice) pitch)
    by true needs =
        let late : 0x4000 ≤ voice.position = grind (arith, nat_tests) in
        let same : suc d ≡ phase / 0x4000 = omega (arith, at.position, at.within, late) in
        rw (← same) record {
          last = next-same (λ (w : VoiceState). w.samples) decoded header loop_word (λ block offset. refl) ∙ newest;
          place = next-place memory loop_word decoded ∙ ap (next_place memory loop_word) at.place;
          position = rw (moved, part) (omega arith);
          within = rw moved (omega arith);
        }
    by false needs =
        let early : voice.position < 0x4000 = grind (arith, nat_tests) in
        let same : d ≡ phase / 0x4000 = omega (arith, at.position, early) in
        rw (← same) record { last = at.last; place = at.place; position = rw part (omega arith); within = omega arith }

-- a step of a voice that plays on
step_reads : (r : VoiceRegs) (i : VoiceIn) (memory : List ℕ) (counter : ℕ) (voice : VoiceState) → voice.delay ≡ 0
    → voice_step voice r i memory counter ≡ read_step memory (loop_word i.dir r.srcn memory) (pitch_of r i) (after_envelope voice r i (byte_at memory voice.block) counter)
unfolding voice_step step_header step_pitch after_delay after_envelope
step_reads r i memory counter voice none = rw none refl

still_none : (r : VoiceRegs) (i : VoiceIn) (memory : List ℕ) (loop_word pitch counter : ℕ) (voice : VoiceState) → voice.delay ≡ 0 → is_keyed i ≡ false
    → (read_step memory loop_word pitch (after_envelope voice r i (byte_at memory voice.block) counter)).delay ≡ 0
unfolding after_pitch after_reading after_decoding after_envelope
still_none r i memory loop_word pitch counter voice none unkeyed = by (needs_group voice)
  where
    header : ℕ
    header = byte_at memory voice.block

    w : VoiceState
    w = after_envelope voice r i header counter

    zero_left : w.delay ≡ 0
    zero_left = rw unkeyed none

    by : (b : Bool) → (if b then at_next_group (after_decoding w memory header) header loop_word else w).delay ≡ 0
    by true = next-same (λ (one : VoiceState). one.delay) (after_decoding w memory header) header loop_word (λ block offset. refl) ∙ zero_left
    by false = zero_left

-- silencing, keys and the envelope leave it where it stands
enveloped : {memory : List ℕ} {loop_word : ℕ} {first : Place} {samples : List ℤ} {d phase : ℕ} (r : VoiceRegs) (i : VoiceIn) (header counter : ℕ) (voice : VoiceState)
    → IsAt memory loop_word first samples d phase voice → IsAt memory loop_word first samples d phase (after_envelope voice r i header counter)
unfolding after_envelope
enveloped r i header counter voice at = record { last = at.last; place = at.place; position = at.position; within = at.within }

module _ (r : VoiceRegs) (inputs : ℕ → VoiceIn) (dir n : ℕ) (memory : List ℕ) (counters phases : ℕ → ℕ) (voice : VoiceState) (plays : PlaysOn r inputs dir n phases voice) where
  at_step : (j : ℕ) → j ≤ n
      → ((steps r inputs memory counters voice j).delay ≡ 0)
      × IsAt memory (loop_word dir r.srcn memory) (place_of voice) voice.samples (groups_before phases j) (phases j) (steps r inputs memory counters voice j)
  unfolding kept_row place_after groups_before steps
  at_step zero few = (plays.delay, record { last = refl; place = refl; position = omega (arith, plays.stands.first); within = plays.position })
  at_step (suc j) few =
      let now : VoiceState = steps r inputs memory counters voice j in
      let pitch : ℕ = pitch_of r (inputs j) in
      let before = at_step j (omega (arith, few)) in
      let after : VoiceState = after_envelope now r (inputs j) (byte_at memory now.block) (counters j) in
      let same : voice_step now r (inputs j) memory (counters j) ≡ read_step memory (loop_word dir r.srcn memory) pitch after =
      step_reads r (inputs j) memory (counters j) now before.0
      ∙ ap (λ (at : ℕ). read_step memory (loop_word at r.srcn memory) pitch after) (plays.same_dir j (omega (arith, few))) in
      let one : suc j ≡ j + 1 = omega arith in
      let further : phases (suc j) ≡ next_phase (phases j) pitch = ap phases one ∙ plays.stands.next j (omega (arith, few)) in
      let here = enveloped r (inputs j) (byte_at memory now.block) (counters j) now before.1 in
      let read = read_on memory (loop_word dir r.srcn memory) (place_of voice) voice.samples (groups_before phases j) (phases j) pitch after
      (omega (arith, plays.twelve)) here in (
        ap (λ (w : VoiceState). w.delay) same ∙ still_none r (inputs j) memory (loop_word dir r.srcn memory) pitch (counters j) now before.0 (plays.unkeyed j (omega (arith, few))),
        rw (same, further) read,
      )

-- a sample that a voice plays is one of the row
entry : (memory : List ℕ) (loop_word : ℕ) (first : Place) (samples : List ℤ) (d total more t i k : ℕ) (voice : VoiceState) → length samples ≡ 12
    → IsAt memory loop_word first samples d total voice → t ≤ 3 → i ≡ voice.position / 0x1000 + t → k ≡ total / 0x1000 + t
    → number_at voice.samples i ≡ number_at (kept_row memory loop_word first samples (more + d)) k
entry memory loop_word first samples d total more t i k voice twelve at few is_i is_k =
    let place : 4 * d + i ≡ k = omega (arith, at.position, is_i, is_k) in
    let short : k < length samples + 4 * d = omega (arith, at.position, at.within, is_i, is_k, few, twelve) in
    ap (λ (s : List ℤ). number_at s i) at.last
    ∙ get_or-drop (4 * d) (kept_row memory loop_word first samples d) i (pos 0)
    ∙ ap (λ (at : ℕ). number_at (kept_row memory loop_word first samples d) at) place
    ∙ sym (row_longer memory loop_word first samples more d k short)

plays_at : (memory : List ℕ) (loop_word : ℕ) (first : Place) (samples : List ℤ) (d total more : ℕ) (voice : VoiceState) (table : List ℤ) → length samples ≡ 12
    → IsAt memory loop_word first samples d total voice
    → interpolation table voice.samples voice.position ≡ interpolation table (kept_row memory loop_word first samples (more + d)) total
unfolding interpolation
plays_at memory loop_word first samples d total more voice table twelve at =
    let m : ℕ = total / 0x1000 in
    let fraction : voice.position / 0x10 % 0x100 ≡ total / 0x10 % 0x100 = omega (arith, at.position) in
    rw (
      fraction,
      entry memory loop_word first samples d total more 0 (voice.position / 0x1000) m voice twelve at (omega arith) (omega arith) (omega arith),
      entry memory loop_word first samples d total more 1 (voice.position / 0x1000 + 1) (m + 1) voice twelve at (omega arith) refl refl,
      entry memory loop_word first samples d total more 2 (voice.position / 0x1000 + 2) (m + 2) voice twelve at (omega arith) refl refl,
      entry memory loop_word first samples d total more 3 (voice.position / 0x1000 + 3) (m + 3) voice twelve at (omega arith) refl refl,
    ) refl

-- what a voice plays in sample j is read off the row
pub plays_row : (r : VoiceRegs) (inputs : ℕ → VoiceIn) (dir n : ℕ) (memory : List ℕ) (counters phases : ℕ → ℕ) (voice : VoiceState) (table : List ℤ) (j more : ℕ)
    → PlaysOn r inputs dir n phases voice → j ≤ n
    → interpolation table (steps r inputs memory counters voice j).samples (steps r inputs memory counters voice j).position
    ≡ interpolation table (row_of r dir memory voice (more + groups_before phases j)) (phases j)
plays_row r inputs dir n memory counters phases voice table j more plays few =
    plays_at memory (loop_word dir r.srcn memory) (place_of voice) voice.samples (groups_before phases j) (phases j) more
    (steps r inputs memory counters voice j) table plays.twelve (at_step r inputs dir n memory counters phases voice plays j few).1

-- where it stands then
pub reads_row : (r : VoiceRegs) (inputs : ℕ → VoiceIn) (dir n : ℕ) (memory : List ℕ) (counters phases : ℕ → ℕ) (voice : VoiceState) (j : ℕ)
    → PlaysOn r inputs dir n phases voice → j ≤ n → StandsAt r dir memory voice (groups_before phases j) (phases j) (steps r inputs memory counters voice j)
reads_row r inputs dir n memory counters phases voice j plays few =
    let at = at_step r inputs dir n memory counters phases voice plays j few in
    record { delay = at.0; last = at.1.last; place = at.1.place; position = at.1.position; within = at.1.within }
