-- A voice stands at a group of its block, and a step takes it from group to group.
use Rattle.std.proofs.Common.{◌≡◌, ◌≢◌, ℕ, ◌+◌, ◌-◌, ◌%◌, ◌<◌, List, pos, Bool, true, false, ◌&&◌, ◌==◌, nat_lt, if◌then◌else◌, refl, arith}
use Rattle.std.proofs.lemmas.Bool.{and_parts, and_from}
use Rattle.std.proofs.lemmas.Bool.Decides.{nat_tests}
use Rattle.voice_unit.specs.Voice.{VoiceState, is_at_group, after_delay, after_envelope, after_decoding, at_next_group, after_reading, after_pitch, voice_step, step_header, needs_group}
use Rattle.voice_unit.specs.Directory.{start_word, loop_word}
use Rattle.voice_unit.specs.declared.interface.VoiceRegs.{VoiceRegs}
use Rattle.voice_unit.specs.declared.interface.VoiceIn.{VoiceIn}

-- the tests of an offset in a block, as facts
pub record IsGroup (offset : ℕ) : Type 0 where
  pub odd : offset % 2 ≡ 1
  pub within : offset < 8

pub group_of : (offset : ℕ) → (offset % 2 == 1 && nat_lt offset 8) ≡ true → IsGroup offset
group_of offset h =
    let parts = and_parts (offset % 2 == 1) (nat_lt offset 8) h in
    record { odd = grind (arith, nat_tests, parts.0); within = grind (arith, nat_tests, parts.1) }

pub is_group : {offset : ℕ} → IsGroup offset → (offset % 2 == 1 && nat_lt offset 8) ≡ true
is_group {offset = offset} group = and_from (offset % 2 == 1) (nat_lt offset 8) (grind (arith, nat_tests, group.odd)) (grind (arith, nat_tests, group.within))

group-after_delay : (v : VoiceState) (start : ℕ) → IsGroup v.offset → IsGroup (after_delay v start).offset
unfolding after_delay
group-after_delay v start h = by (v.delay == 0) (v.delay == 5)
  where
    five : (b : Bool) → IsGroup (if b then 1 else v.offset)
    five true = record { odd = refl; within = omega arith }
    five false = h

    by : (a b : Bool) → IsGroup (if a then v else record {
      samples = v.samples;
      position = if (v.delay - 1) % 4 == 0 then 0 else 0x4000;
      block = if b then start else v.block;
      offset = if b then 1 else v.offset;
      delay = v.delay - 1;
      envelope = record v.envelope { level = 0; hidden = pos 0 };
    }).offset
    by true b = h
    by false b = five b

group-at_next_group : (v : VoiceState) (header loop_word : ℕ) → IsGroup v.offset → IsGroup (at_next_group v header loop_word).offset
unfolding at_next_group
group-at_next_group v header loop_word h = by _ (v.offset == 7) refl
  where
    by : (block : ℕ) (b : Bool) → (v.offset == 7) ≡ b → IsGroup (if b then record v { offset = 1; block = block } else record v { offset = v.offset + 2 }).offset
    by block true e = record { odd = refl; within = omega arith }
    by block false e = let other : v.offset ≢ 7 = grind (arith, nat_tests, e) in record { odd = omega (arith, h.odd); within = omega (arith, h.odd, h.within, other) }

group-after_reading : (v : VoiceState) (memory : List ℕ) (header loop_word : ℕ) → IsGroup v.offset → IsGroup (after_reading v memory header loop_word).offset
unfolding after_reading after_decoding
group-after_reading v memory header loop_word h = by (needs_group v)
  where
    by : (b : Bool) → IsGroup (if b then at_next_group (after_decoding v memory header) header loop_word else v).offset
    by true = group-at_next_group (after_decoding v memory header) header loop_word h
    by false = h

-- a step takes a voice from group to group
pub is_at_group-voice_step : (v : VoiceState) (r : VoiceRegs) (i : VoiceIn) (memory : List ℕ) (counter : ℕ) → is_at_group v ≡ true → is_at_group (voice_step v r i memory counter) ≡ true
unfolding voice_step after_pitch after_envelope
is_at_group-voice_step v r i memory counter h =
    let header : ℕ = step_header v memory in
    let playing : VoiceState = after_delay v (start_word i.dir r.srcn memory) in
    let played : IsGroup playing.offset = group-after_delay v (start_word i.dir r.srcn memory) (group_of v.offset h) in
    is_group (group-after_reading (after_envelope playing r i header counter) memory header (loop_word i.dir r.srcn memory) played)
