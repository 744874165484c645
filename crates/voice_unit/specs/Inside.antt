-- What the fields of a voice stand for.
use Rattle.std.specs.Prelude.{◌≡◌, ◌≤◌, true, length}
use Rattle.voice_unit.specs.Voice.{VoiceState, is_at_group}
use Rattle.voice_unit.specs.declared.voice.Voice.TheInside.{Inside}

-- the voice that the fields stand for
abbrev pub state_of : Inside → VoiceState
state_of v = record { samples = v.samples; position = v.position; block = v.block; offset = v.offset; delay = v.delay; envelope = v.envelope }

-- the fields of a voice
abbrev pub inside_of : VoiceState → Inside
inside_of v = record { samples = v.samples; position = v.position; block = v.block; offset = v.offset; delay = v.delay; envelope = v.envelope }

-- what holds of the fields of each voice
pub record IsVoice (v : Inside) : Type 0 where
  pub twelve : length v.samples ≡ 12
  pub position_bound : v.position ≤ 0x7fff
  pub group : is_at_group (state_of v) ≡ true
  pub delay_bound : v.delay ≤ 5
