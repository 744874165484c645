-- A step of a voice with a free-running envelope that isn't keyed steps its envelope, reads on and moves on.
use Rattle.std.proofs.Common.{◌≡◌, ℕ, ◌+◌, Bool, true, false, ◌&&◌, List, ℤ, if◌then◌else◌, refl, ap, sym, ◌∙◌}
use Rattle.std.proofs.lemmas.Bool.{and_parts}
use Rattle.aram_core.specs.Memory.{byte_at}
use Rattle.envelope.specs.Envelope.{EnvelopeState, envelope_step}
use Rattle.envelope.specs.declared.Mode.{Mode}
use Rattle.envelope.specs.declared.Mode.TheVariants.{Release}
use Rattle.voice_unit.specs.Directory.{loop_word}
use Rattle.voice_batch.specs.FreeEnvelope.{IsSilent, HasFreeEnvelope}
use Rattle.voice_unit.specs.Voice.{is_silencing, VoiceState, needs_group, is_at_last_group, after_delay, after_silencing, after_keys, after_envelope, after_decoding, at_next_group, after_reading, after_pitch, step_header, step_pitch, pitch_of, is_keyed, is_ended, output, voice_step, voice_answer}
use Rattle.voice_unit.specs.declared.interface.VoiceRegs.{VoiceRegs}
use Rattle.voice_unit.specs.declared.interface.VoiceIn.{VoiceIn}

-- what would silence an envelope leaves a silent one
silenced : (e : EnvelopeState) (b : Bool) → (b ≡ true → IsSilent e) → (if b then record e { mode = Release; level = 0 } else e) ≡ e
silenced e true h =
    ap (λ (m : Mode). record e { mode = m; level = 0 }) (sym (h refl).mode) ∙ ap (λ (l : ℕ). record e { level = l }) (sym (h refl).level)
silenced e false h = refl

-- what would release it leaves a released one
released : (e : EnvelopeState) (b : Bool) → (b ≡ true → e.mode ≡ Release) → (if b then record e { mode = Release } else e) ≡ e
released e true h = ap (λ (m : Mode). record e { mode = m }) (sym (h refl))
released e false h = refl

-- a voice with its own delay, and an envelope
own : (v : VoiceState) (delay : ℕ) (e f : EnvelopeState) → delay ≡ v.delay → e ≡ f → record v { delay = delay; envelope = e } ≡ record v { envelope = f }
own v delay e f d h = ap (λ (n : ℕ). record v { delay = n; envelope = e }) d ∙ ap (λ (x : EnvelopeState). record v { envelope = x }) h

-- the voice with a step of its envelope
abbrev pub enveloped : (r : VoiceRegs) → (counter : ℕ) → VoiceState → VoiceState
enveloped r counter v = record v { envelope = envelope_step v.envelope r.adsr1 r.adsr2 r.gain counter }

module _ (r : VoiceRegs) (i : VoiceIn) (memory : List ℕ) (counter : ℕ) (v : VoiceState) (free_envelope : HasFreeEnvelope i.reset i.koff memory v) (unkeyed : is_keyed i ≡ false) where
  -- nothing but the step of its envelope changes it
  stepped : after_envelope v r i (byte_at memory v.block) counter ≡ enveloped r counter v
  unfolding after_envelope after_silencing after_keys
  stepped =
      let none : v.delay ≡ 0 = free_envelope.delay in
      let quiet = silenced v.envelope (is_silencing i.reset (byte_at memory v.block)) free_envelope.silencing in
      let held = released v.envelope (i.poll && i.koff) (λ both. free_envelope.key_off (and_parts i.poll i.koff both).1) in
      own v _ _ _ (rw unkeyed refl) (rw (unkeyed, quiet, held, none) refl)

  -- the step
  step_parts : voice_step v r i memory counter
      ≡ after_pitch (after_reading (after_envelope v r i (byte_at memory v.block) counter) memory (byte_at memory v.block) (loop_word i.dir r.srcn memory)) (step_pitch v r i)
  unfolding voice_step step_header after_delay
  step_parts = let none : v.delay ≡ 0 = free_envelope.delay in rw none refl

  own_pitch : step_pitch v r i ≡ pitch_of r i
  unfolding step_pitch
  own_pitch = let none : v.delay ≡ 0 = free_envelope.delay in rw none refl

  pub free_step : voice_step v r i memory counter
      ≡ after_pitch (after_reading (enveloped r counter v) memory (byte_at memory v.block) (loop_word i.dir r.srcn memory)) (pitch_of r i)
  free_step =
      step_parts
      ∙ ap (λ (w : VoiceState). after_pitch (after_reading w memory (byte_at memory v.block) (loop_word i.dir r.srcn memory)) (step_pitch v r i)) stepped
      ∙ ap (λ (p : ℕ). after_pitch (after_reading (enveloped r counter v) memory (byte_at memory v.block) (loop_word i.dir r.srcn memory)) p) own_pitch

  pub free_out : (table : List ℤ) → (voice_answer v r i memory table counter).out ≡ output v i table
  unfolding voice_answer after_delay
  free_out table = let none : v.delay ≡ 0 = free_envelope.delay in rw none refl

  pub free_level : (table : List ℤ) → (voice_answer v r i memory table counter).level ≡ v.envelope.level
  unfolding voice_answer after_delay
  free_level table = let none : v.delay ≡ 0 = free_envelope.delay in rw none refl

  pub free_ended : (table : List ℤ) → (voice_answer v r i memory table counter).ended ≡ is_ended v (byte_at memory v.block)
  unfolding voice_answer after_delay step_header
  free_ended table = let none : v.delay ≡ 0 = free_envelope.delay in rw none refl

-- the envelope after reading and moving on
pub envelope-after_reading : (v : VoiceState) (memory : List ℕ) (header loop_word pitch : ℕ) → (after_pitch (after_reading v memory header loop_word) pitch).envelope ≡ v.envelope
unfolding after_pitch after_reading at_next_group after_decoding
envelope-after_reading v memory header loop_word pitch = by (needs_group v) (is_at_last_group v) _ _
  where
    by : (a b : Bool) (block : ℕ) (samples : List ℤ) → (if a then (if b then record v { samples = samples; offset = 1; block = block } else record v { samples = samples; offset = v.offset + 2 }) else v).envelope ≡ v.envelope
    by true true block samples = refl
    by true false block samples = refl
    by false b block samples = refl
