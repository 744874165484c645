-- One step of a voice, as a sequence of changes: each as in Anomie's S-DSP Doc, in an order of this project's own.
use Rattle.std.specs.Prelude.{ℕ, ◌+◌, ◌-◌, ◌*◌, ◌/◌, ◌%◌, Bool, ◌&&◌, ◌||◌, not, ◌==◌, nat_le, nat_lt, min, List, drop, replicate, ℤ, pos, ◌+ℤ◌, unsigned_abs, if◌then◌else◌}
use Rattle.num_fix.specs.Arithmetic.{floor_shift, scaled, wrap16, clear_bit0, high_byte, has_bit}
use Rattle.num_fix.specs.SignedWords.{number_at}
use Rattle.aram_core.specs.Memory.{byte_at}
use Rattle.brr_decode.specs.Header.{has_end, has_loop, next_block}
use Rattle.brr_decode.specs.Kept.{with_group}
use Rattle.gauss_table.specs.Interpolation.{mix}
use Rattle.envelope.specs.Envelope.{EnvelopeState, envelope_step}
use Rattle.envelope.specs.declared.Mode.TheVariants.{Attack, Release}
use Rattle.voice_unit.specs.Directory.{start_word, loop_word}
use Rattle.voice_unit.specs.declared.interface.VoiceRegs.{VoiceRegs}
use Rattle.voice_unit.specs.declared.interface.VoiceIn.{VoiceIn}
use Rattle.voice_unit.specs.declared.interface.VoiceOut.{VoiceOut}

-- A voice: its last 12 kept samples, oldest first; the position that it plays among them, in 4096ths of a sample;
-- the address of its block and the offset in it of the next group; what is left of its key-on delay; its envelope.
pub record VoiceState : Type 0 where
  pub samples : List ℤ
  pub position : ℕ
  pub block : ℕ
  pub offset : ℕ
  pub delay : ℕ
  pub envelope : EnvelopeState

-- a voice stands at one of the four groups of its block
abbrev pub is_at_group : VoiceState → Bool
is_at_group v = v.offset % 2 == 1 && nat_lt v.offset 8

-- a voice that was never keyed
abbrev pub silent_voice : VoiceState
silent_voice = record {
  samples = replicate 12 (pos 0);
  position = 0;
  block = 0;
  offset = 1;
  delay = 0;
  envelope = record { mode = Release; level = 0; hidden = pos 0 };
}

-- a voice is modulated by the one before it where its PMON bit is set; voice 0 never is
abbrev pub is_modulated : (pmon voice : ℕ) → Bool
is_modulated pmon voice = nat_lt 0 voice && has_bit pmon voice

-- A pitch changed by the output of the voice before.
-- The sum is never negative, as the output's 1024ths of the pitch are at least the pitch's negative; so its absolute value is itself.
abbrev pub modulated_pitch : (pitch : ℕ) → (previous : ℤ) → ℕ
modulated_pitch pitch previous = unsigned_abs (pos pitch +ℤ scaled (floor_shift previous 5) (pos pitch) 10)

-- the pitch of the registers, changed by the voice before where it is modulated
unfoldable pub pitch_of : VoiceRegs → VoiceIn → ℕ
pitch_of r i = if i.modulated then modulated_pitch r.pitch i.previous else r.pitch

-- the pitch at which a step moves on: none during the key-on delay
unfoldable pub step_pitch : VoiceState → VoiceRegs → VoiceIn → ℕ
step_pitch v r i = if v.delay == 0 then pitch_of r i else 0

-- the header that a step sees: that of the voice's block, and 0 in the first step after a key on
unfoldable pub step_header : VoiceState → List ℕ → ℕ
step_header v memory = if v.delay == 5 then 0 else byte_at memory v.block

-- One step of the key-on delay: the first goes to the start, and each keeps the level at 0.
-- The position of 4000h lets the next three groups be read, one a step, before the voice sounds.
unfoldable pub after_delay : VoiceState → (start : ℕ) → VoiceState
after_delay v start =
    if v.delay == 0 then v
    else record {
      samples = v.samples;
      position = if (v.delay - 1) % 4 == 0 then 0 else 0x4000;
      block = if v.delay == 5 then start else v.block;
      offset = if v.delay == 5 then 1 else v.offset;
      delay = v.delay - 1;
      envelope = record v.envelope { level = 0; hidden = pos 0 };
    }

-- the interpolation of the four samples at a position
unfoldable pub interpolation : (table samples : List ℤ) → (position : ℕ) → ℤ
interpolation table samples position =
    let m = position / 0x1000 in
    mix table (position / 0x10 % 0x100) (number_at samples m) (number_at samples (m + 1)) (number_at samples (m + 2)) (number_at samples (m + 3))

-- what a voice plays before its level: noise or its samples
unfoldable pub source_sample : VoiceState → VoiceIn → (table : List ℤ) → ℤ
source_sample v i table = if i.noisy then wrap16 (pos (2 * i.noise)) else interpolation table v.samples v.position

-- the output of a voice: its source at its level
unfoldable pub output : VoiceState → VoiceIn → (table : List ℤ) → ℤ
output v i table = clear_bit0 (scaled (source_sample v i table) (pos v.envelope.level) 11)

-- the soft reset, or the header of a block that ends without a loop, silences a voice
abbrev pub is_silencing : (reset : Bool) → (header : ℕ) → Bool
is_silencing reset header = reset || (has_end header && not (has_loop header))

-- what silences a voice releases its envelope at level 0
unfoldable pub after_silencing : EnvelopeState → VoiceIn → (header : ℕ) → EnvelopeState
after_silencing e i header = if is_silencing i.reset header then record e { mode = Release; level = 0 } else e

-- a voice is keyed at a poll that took its key on
abbrev pub is_keyed : VoiceIn → Bool
is_keyed i = i.poll && i.kon

-- at a poll a key off begins the release, and then a key on the attack
unfoldable pub after_keys : EnvelopeState → VoiceIn → EnvelopeState
after_keys e i =
    let released : EnvelopeState = if i.poll && i.koff then record e { mode = Release } else e in
    if is_keyed i then record released { mode = Attack } else released

-- a key on begins the delay of five steps
abbrev pub delay_after_keys : VoiceState → VoiceIn → ℕ
delay_after_keys v i = if is_keyed i then 5 else v.delay

-- the voice after silencing, keys and, where it has no delay, the step of its envelope
unfoldable pub after_envelope : VoiceState → VoiceRegs → VoiceIn → (header counter : ℕ) → VoiceState
after_envelope v r i header counter =
    let delay = delay_after_keys v i in
    let keyed = after_keys (after_silencing v.envelope i header) i in
    record v { delay = delay; envelope = if delay == 0 then envelope_step keyed r.adsr1 r.adsr2 r.gain counter else keyed }

-- the position is past the four samples of a group, so the next group is to be read
abbrev pub needs_group : VoiceState → Bool
needs_group v = nat_le 0x4000 v.position

-- the group to be read is the last one of its block
abbrev pub is_at_last_group : VoiceState → Bool
is_at_last_group v = v.offset == 7

-- the voice with the four samples of the next group after its samples, of which the four oldest are dropped
unfoldable pub after_decoding : VoiceState → List ℕ → (header : ℕ) → VoiceState
after_decoding v memory header =
    record v { samples = drop 4 (with_group v.samples header (byte_at memory (v.block + v.offset)) (byte_at memory (v.block + v.offset + 1))) }

-- the voice at the group that follows, in its block or, after the last one, in the next block
unfoldable pub at_next_group : VoiceState → (header loop_word : ℕ) → VoiceState
at_next_group v header loop_word =
    if is_at_last_group v then record v { offset = 1; block = next_block header v.block loop_word }
    else record v { offset = v.offset + 2 }

-- the voice after it read a group, where it needs one
unfoldable pub after_reading : VoiceState → List ℕ → (header loop_word : ℕ) → VoiceState
after_reading v memory header loop_word =
    if needs_group v then at_next_group (after_decoding v memory header) header loop_word else v

-- the voice comes to an end: it reads the last group of a block that has its end bit
abbrev pub is_ended : VoiceState → (header : ℕ) → Bool
is_ended v header = needs_group v && is_at_last_group v && has_end header

-- the voice with its position moved on by a pitch
unfoldable pub after_pitch : VoiceState → (pitch : ℕ) → VoiceState
after_pitch v pitch = record v { position = min 0x7fff (v.position % 0x4000 + pitch) }

-- the voice whose sample a step plays
abbrev pub playing_voice : VoiceState → VoiceRegs → VoiceIn → List ℕ → VoiceState
playing_voice v r i memory = after_delay v (start_word i.dir r.srcn memory)

-- the next voice
unfoldable pub voice_step : VoiceState → VoiceRegs → VoiceIn → List ℕ → (counter : ℕ) → VoiceState
voice_step v r i memory counter =
    let header = step_header v memory in
    let sounding = after_envelope (playing_voice v r i memory) r i header counter in
    after_pitch (after_reading sounding memory header (loop_word i.dir r.srcn memory)) (step_pitch v r i)

-- what a step gives
unfoldable pub voice_answer : VoiceState → VoiceRegs → VoiceIn → List ℕ → (table : List ℤ) → (counter : ℕ) → VoiceOut
voice_answer v r i memory table counter =
    let playing = playing_voice v r i memory in
    let out = output playing i table in
    record {
      out = out;
      level = playing.envelope.level;
      envx = playing.envelope.level / 0x10;
      outx = high_byte out;
      block = (voice_step v r i memory counter).block;
      ended = is_ended playing (step_header v memory);
      keyed = is_keyed i;
    }
