-- A rendered span of samples, over the row of its kept samples.
use Rattle.std.proofs.Common.{◌≡◌, ◌≢◌, ℕ, zero, suc, ◌+◌, ◌-◌, ◌*◌, ◌/◌, ◌^◌, ◌<◌, ◌≤◌, ◌==◌, nat_lt, nat_le, ◌&&◌, List, ℤ, pos, Bool, true, false, length, take, drop, slice_index, if◌then◌else◌, refl, sym, ap, ◌∙◌, arith, add-one}
use Rattle.std.proofs.Math.Nat.{add-suc}
use Rattle.std.proofs.lemmas.List.{get_or-take}
use Rattle.std.proofs.lemmas.Bool.{eq-eqb}
use Rattle.std.proofs.lemmas.Bool.Decides.{nat_tests}
use Rattle.num_fix.specs.Arithmetic.{scaled, wrap16, clear_bit0, has_bit}
use Rattle.num_fix.specs.SignedWords.{number_at}
use Rattle.aram_core.specs.Memory.{byte_at}
use Rattle.brr_decode.specs.Header.{has_end}
use Rattle.rate_clock.specs.Counter.{counter_at}
use Rattle.envelope.specs.Envelope.{EnvelopeState, envelope_step}
use Rattle.voice_unit.specs.Directory.{loop_word}
use Rattle.voice_unit.specs.Batch.{steps, answer_of_step, Lane, voice_at, answer_at}
use Rattle.voice_batch.specs.Plain.{PlaysPlainly}
use Rattle.voice_batch.specs.Play.{IsPlayed}
use Rattle.voice_batch.specs.FreeEnvelope.{IsSilent, HasFreeEnvelope}
use Rattle.voice_batch.specs.Levels.{envelope_from, level_in}
use Rattle.voice_batch.specs.Row.{ArePhases, place_after, groups_before, is_end, is_read_in, ended_in, PlaysOn, row_of, place_of, StandsAt}
use Rattle.voice_batch.specs.SpanPhases.{MoveOn}
use Rattle.voice_batch.specs.OutsOverRow.{sounding_at, out_in_span}
use Rattle.voice_unit.specs.Voice.{is_silencing, VoiceState, pitch_of, interpolation, output, source_sample, needs_group, is_at_last_group, after_reading, after_pitch, voice_step}
use Rattle.voice_unit.specs.declared.batch.VoiceView.{VoiceView}
use Rattle.voice_unit.specs.declared.interface.VoiceIn.{VoiceIn}
use Rattle.voice_batch.specs.declared.row.Place.{Place}
use Rattle.voice_batch.proofs.FreeEnvelopeStep.{enveloped, free_step, free_out, free_level, free_ended, envelope-after_reading}
use Rattle.voice_batch.proofs.Counting.{moves_on, groups_before-more, groups_before-rise}
use Rattle.voice_batch.proofs.RowOfVoice.{plays_row, reads_row}
use Rattle.voice_batch.proofs.Stepped.{envelope_from-zero, envelope_from-more, stays_released, stays_silent}

-- an interpolation looks at four samples of a row
interpolation-same : (table xs ys : List ℤ) (phase : ℕ) → ((k : ℕ) → k < phase / 0x1000 + 4 → number_at xs k ≡ number_at ys k) → interpolation table xs phase ≡ interpolation table ys phase
unfolding interpolation
interpolation-same table xs ys phase same =
    let m : ℕ = phase / 0x1000 in
    rw (same m (omega arith), same (m + 1) (omega arith), same (m + 2) (omega arith), same (m + 3) (omega arith)) refl

-- what a voice puts out: noise, or what its samples give
sourced_output : (v : VoiceState) (i : VoiceIn) (table : List ℤ) (noisy : Bool) (noise : ℕ) (samples : ℤ) (level : ℕ) → i.noisy ≡ noisy → i.noise ≡ noise
    → interpolation table v.samples v.position ≡ samples → v.envelope.level ≡ level
    → output v i table ≡ (if noisy then sounding_at level (wrap16 (pos (2 * noise))) else sounding_at level samples)
unfolding output source_sample
sourced_output v i table noisy noise samples level known heard is at = rw (known, heard, is, at) (by noisy)
  where
    by : (b : Bool) → clear_bit0 (scaled (if b then wrap16 (pos (2 * noise)) else samples) (pos level) 11)
        ≡ (if b then sounding_at level (wrap16 (pos (2 * noise))) else sounding_at level samples)
    by true = refl
    by false = refl

-- a voice is its parts
same_voice : (a b : VoiceState) → a.samples ≡ b.samples → a.position ≡ b.position → place_of a ≡ place_of b → a.delay ≡ b.delay → a.envelope ≡ b.envelope → a ≡ b
same_voice a b samples position place delay envelope =
    ap (λ (x : List ℤ). record { samples = x; position = a.position; block = a.block; offset = a.offset; delay = a.delay; envelope = a.envelope }) samples
    ∙ ap (λ (x : ℕ). record { samples = b.samples; position = x; block = a.block; offset = a.offset; delay = a.delay; envelope = a.envelope }) position
    ∙ ap (λ (x : Place). record { samples = b.samples; position = b.position; block = x.block; offset = x.offset; delay = a.delay; envelope = a.envelope }) place
    ∙ ap (λ (x : ℕ). record { samples = b.samples; position = b.position; block = b.block; offset = b.offset; delay = x; envelope = a.envelope }) delay
    ∙ ap (λ (x : EnvelopeState). record { samples = b.samples; position = b.position; block = b.block; offset = b.offset; delay = b.delay; envelope = x }) envelope

-- what is so where a voice has come to so many groups
reads_a_group : (phases : ℕ → ℕ) (j now : ℕ) → now + 0x4000 * groups_before phases j ≡ phases j → now < 0x8000
    → nat_le 0x4000 now ≡ is_read_in phases (groups_before phases j) j
reads_a_group phases j now stands within = by (nat_le 0x4000 now) refl
  where
    g : ℕ
    g = groups_before phases j

    same : (b : Bool) → (g == g) ≡ true → (groups_before phases (j + 1) == g + 1) ≡ b → b ≡ ((g == g) && (groups_before phases (j + 1) == g + 1))
    same b e f = rw (e, f) refl

    by : (b : Bool) → nat_le 0x4000 now ≡ b → b ≡ is_read_in phases g j
    by true e =
        let late : 0x4000 ≤ now = grind (arith, nat_tests, e) in
        let next : groups_before phases (j + 1) ≡ g + 1 = groups_before-more phases j ∙ omega (arith, stands, within, late) in
        same true (eq-eqb g g refl) (eq-eqb _ _ next)
    by false e =
        let early : now < 0x4000 = grind (arith, nat_tests, e) in
        let next : groups_before phases (j + 1) ≡ g = groups_before-more phases j ∙ omega (arith, stands, early) in
        let other : groups_before phases (j + 1) ≢ g + 1 = λ is. absurd (omega (arith, next, is)) in
        let test : (groups_before phases (j + 1) == g + 1) ≡ false = grind (arith, nat_tests, other) in
        same false (eq-eqb g g refl) test

-- the last of three tests grouped the other way round
regrouped : (a b c : Bool) → (a && b && c) ≡ (a && (b && c))
regrouped true b c = refl
regrouped false b c = refl

module _ (own : VoiceView) (lane : Lane) (n m : ℕ) (before ends : List ℕ) (outs : List ℤ) (voice : VoiceState)
    (played : IsPlayed lane own.voice n before ends outs voice) (free_envelope : HasFreeEnvelope own.reset (has_bit own.koff own.voice) lane.memory voice)
    (twelve : length voice.samples ≡ 12) (low : voice.position < 0x8000)
    (heard : ℕ → ℕ) (noise : (j : ℕ) → (lane.inputs j).noise ≡ heard j)
    (renders : (j : ℕ) → j < m → PlaysPlainly own (lane.inputs (n + j))) (some : 0 < m)
    (phases : ℕ → ℕ) (by_pitch : ArePhases (λ j. pitch_of lane.regs (lane.inputs (n + j))) m voice.position phases)
    (quiet : (j : ℕ) → j < m → 0 < groups_before phases j
    → is_silencing own.reset (byte_at lane.memory (place_after lane.memory (loop_word own.dir lane.regs.srcn lane.memory) (place_of voice) (groups_before phases j)).block) ≡ true
    → IsSilent voice.envelope) where
  abbrev again : ℕ
  again = loop_word own.dir lane.regs.srcn lane.memory

  abbrev g : ℕ → ℕ
  g j = groups_before phases j

  abbrev there : ℕ → Place
  there d = place_after lane.memory again (place_of voice) d

  -- the voice after j more samples
  abbrev s : ℕ → VoiceState
  s j = steps lane.regs (λ i. lane.inputs (n + i)) lane.memory (λ i. counter_at (lane.k + (n + i))) voice j

  -- its envelope
  abbrev e : ℕ → EnvelopeState
  e j = envelope_from voice.envelope lane.regs (lane.k + n) j

  on : (j : ℕ) → voice_at lane (n + j) ≡ s j
  unfolding steps
  on zero = let none : n + 0 ≡ n = omega arith in rw none (sym played.voice_is)
  on (suc j) = rw add-suc (ap (λ (v : VoiceState). voice_step v lane.regs (lane.inputs (n + j)) lane.memory (counter_at (lane.k + (n + j)))) (on j))

  plays_on : PlaysOn lane.regs (λ i. lane.inputs (n + i)) own.dir m phases voice
  plays_on = record {
    delay = free_envelope.delay;
    twelve = twelve;
    position = low;
    stands = by_pitch;
    unkeyed = λ j below. (renders j below).unkeyed;
    same_dir = λ j below. (renders j below).dir;
  }

  on_and_on : MoveOn phases m
  on_and_on = moves_on (λ j. pitch_of lane.regs (lane.inputs (n + j))) m voice.position phases low by_pitch

  stands : (j : ℕ) → j ≤ m → StandsAt lane.regs own.dir lane.memory voice (g j) (phases j) (s j)
  stands j few = reads_row lane.regs (λ i. lane.inputs (n + i)) own.dir m lane.memory (λ i. counter_at (lane.k + (n + i))) phases voice j plays_on few

  -- the header that the voice sees in a sample
  block_is : (j : ℕ) → j ≤ m → (s j).block ≡ (there (g j)).block
  block_is j few = ap (λ (p : Place). p.block) (stands j few).place

  silent_at : (j : ℕ) → j < m → is_silencing own.reset (byte_at lane.memory (there (g j)).block) ≡ true → IsSilent voice.envelope
  unfolding place_after
  silent_at j below wrapped = by (g j) refl
    where
      by : (d : ℕ) → g j ≡ d → IsSilent voice.envelope
      by zero same = free_envelope.silencing (rw same at wrapped)
      by (suc d) same = quiet j below (omega (arith, same)) wrapped

  -- the envelope stays free-running, as only the steps of its envelope change that
  free_at : (j : ℕ) → j < m → (s j).envelope ≡ e j → HasFreeEnvelope (lane.inputs (n + j)).reset (lane.inputs (n + j)).koff lane.memory (s j)
  free_at j below same =
      let plain = renders j below in
      rw (plain.reset, plain.koff) record {
        delay = (stands j (omega (arith, below))).delay;
        silencing = λ wrapped. rw same (stays_silent voice.envelope lane.regs (lane.k + n) j (silent_at j below (rw (block_is j (omega (arith, below))) at wrapped)));
        key_off = λ off. rw same (stays_released voice.envelope lane.regs (lane.k + n) j (free_envelope.key_off off));
      }

  step_is : (j : ℕ) → j < m → (s j).envelope ≡ e j
      → s (j + 1) ≡ after_pitch (after_reading (enveloped lane.regs (counter_at (lane.k + (n + j))) (s j)) lane.memory (byte_at lane.memory (s j).block)
      (loop_word (lane.inputs (n + j)).dir lane.regs.srcn lane.memory)) (pitch_of lane.regs (lane.inputs (n + j)))
  unfolding steps
  step_is j below same = rw add-one (free_step lane.regs (lane.inputs (n + j)) lane.memory (counter_at (lane.k + (n + j))) (s j) (free_at j below same) (renders j below).unkeyed)

  follows : (j : ℕ) → j ≤ m → (s j).envelope ≡ e j
  unfolding steps
  follows zero few = sym (envelope_from-zero voice.envelope lane.regs (lane.k + n))
  follows (suc j) few =
      let now : (s j).envelope ≡ e j = follows j (omega (arith, few)) in
      let far : lane.k + (n + j) ≡ lane.k + n + j = omega arith in
      let stepped : (s (j + 1)).envelope ≡ envelope_step (s j).envelope lane.regs.adsr1 lane.regs.adsr2 lane.regs.gain (counter_at (lane.k + (n + j))) =
      ap (λ (v : VoiceState). v.envelope) (step_is j (omega (arith, few)) now)
      ∙ envelope-after_reading (enveloped lane.regs (counter_at (lane.k + (n + j))) (s j)) lane.memory (byte_at lane.memory (s j).block)
      (loop_word (lane.inputs (n + j)).dir lane.regs.srcn lane.memory) (pitch_of lane.regs (lane.inputs (n + j))) in
      let all : (s (j + 1)).envelope ≡ e (j + 1) = stepped ∙ rw (now, far) (sym (envelope_from-more voice.envelope lane.regs (lane.k + n) j)) in
      rw add-one at all

  -- what sample j gives
  out_is : (j : ℕ) → j < m → (row : List ℤ) → take (12 + 4 * g m) row ≡ row_of lane.regs own.dir lane.memory voice (g m)
      → (answer_at lane (n + j)).out
      ≡ out_in_span (has_bit own.non own.voice) (heard (n + j)) lane.table row (phases j) (level_in voice.envelope lane.regs (lane.k + n) j)
  unfolding answer_of_step
  out_is j below row is =
      let plain = renders j below in
      let same = follows j (omega (arith, below)) in
      let gave = free_out lane.regs (lane.inputs (n + j)) lane.memory (counter_at (lane.k + (n + j))) (s j) (free_at j below same) plain.unkeyed lane.table in
      let rise = groups_before-rise phases m on_and_on j m (omega (arith, below)) (omega arith) in
      let more : (g m - g j) + g j ≡ g m = omega (arith, rise) in
      let at_row = rw more at (plays_row lane.regs (λ i. lane.inputs (n + i)) own.dir m lane.memory (λ i. counter_at (lane.k + (n + i))) phases voice lane.table j (g m - g j) plays_on (omega (arith, below))) in
      let total : ℕ = phases j in
      let here : (s j).position + 0x4000 * g j ≡ total = (stands j (omega (arith, below))).position in
      let inside : (s j).position < 0x8000 = (stands j (omega (arith, below))).within in
      let alike : interpolation lane.table (row_of lane.regs own.dir lane.memory voice (g m)) total ≡ interpolation lane.table row total =
      interpolation-same lane.table _ row total (λ k few. ap (λ (xs : List ℤ). number_at xs k) (sym is) ∙ get_or-take (12 + 4 * g m) row k (pos 0) (omega (arith, few, here, inside, rise))) in
      rw (on j) (gave ∙ sourced_output (s j) (lane.inputs (n + j)) lane.table (has_bit own.non own.voice) (heard (n + j)) (interpolation lane.table row total)
      (level_in voice.envelope lane.regs (lane.k + n) j) plain.noisy (noise (n + j)) (at_row ∙ alike) (ap (λ (x : EnvelopeState). x.level) same))

  -- the level that makes it
  level_is : (j : ℕ) → j < m → (answer_at lane (n + j)).level ≡ level_in voice.envelope lane.regs (lane.k + n) j
  unfolding answer_of_step
  level_is j below =
      let same = follows j (omega (arith, below)) in
      let made = free_level lane.regs (lane.inputs (n + j)) lane.memory (counter_at (lane.k + (n + j))) (s j) (free_at j below same) (renders j below).unkeyed lane.table in
      rw (on j) (made ∙ ap (λ (x : EnvelopeState). x.level) same)

  -- that of the last sample
  pub last_level : (answer_at lane (n + m - 1)).level ≡ level_in voice.envelope lane.regs (lane.k + n) (m - 1)
  last_level = let last : n + m - 1 ≡ n + (m - 1) = omega (arith, some) in rw last (level_is (m - 1) (omega (arith, some)))

  ended_is : (j : ℕ) → j < m → (answer_at lane (n + j)).ended ≡ ended_in lane.memory again (place_of voice) phases j
  unfolding answer_of_step
  ended_is j below =
      let same = follows j (omega (arith, below)) in
      let marked = free_ended lane.regs (lane.inputs (n + j)) lane.memory (counter_at (lane.k + (n + j))) (s j) (free_at j below same) (renders j below).unkeyed lane.table in
      let here = stands j (omega (arith, below)) in
      let needs = reads_a_group phases j (s j).position here.position here.within in
      rw (on j) (marked ∙ regrouped (needs_group (s j)) (is_at_last_group (s j)) (has_end (byte_at lane.memory (s j).block))
      ∙ ap (λ (b : Bool). b && is_end lane.memory (place_of (s j))) needs ∙ ap (λ (p : Place). is_read_in phases (g j) j && is_end lane.memory p) here.place)

  -- what the span leaves
  pub rendered_over : (now : VoiceState) (after : List ℕ) (given row : List ℤ) → take (12 + 4 * g m) row ≡ row_of lane.regs own.dir lane.memory voice (g m)
      → now.samples ≡ drop (4 * g m) (row_of lane.regs own.dir lane.memory voice (g m)) → now.position + 0x4000 * g m ≡ phases m
      → place_of now ≡ there (g m) → now.delay ≡ voice.delay → now.envelope ≡ e m
      → ((j : ℕ) → j < n → number_at given j ≡ number_at outs j)
      → ((j : ℕ) → j < m → number_at given (n + j)
      ≡ out_in_span (has_bit own.non own.voice) (heard (n + j)) lane.table row (phases j) (level_in voice.envelope lane.regs (lane.k + n) j))
      → ((j : ℕ) → j < n → slice_index after j ≡ slice_index ends j)
      → ((j : ℕ) → j < m → slice_index after (n + j) ≡ slice_index ends (n + j) + (if ended_in lane.memory again (place_of voice) phases j then 2 ^ own.voice else 0))
      → ((j : ℕ) → n + m ≤ j → slice_index after j ≡ slice_index ends j)
      → IsPlayed lane own.voice (n + m) before after given now
  rendered_over now after given row is samples position place delay envelope outs_before outs_then ends_before ends_then ends_later = record {
    voice_is = voice_is ∙ sym (on m);
    outs_are = λ j below. outs_by j (nat_lt j n) refl below;
    ends_are = λ j below. ends_by j (nat_lt j n) refl below;
    others = λ j above. ends_later j above ∙ played.others j (omega (arith, above));
  }
    where
      here : StandsAt lane.regs own.dir lane.memory voice (g m) (phases m) (s m)
      here = stands m (omega arith)

      voice_is : now ≡ s m
      voice_is = same_voice now (s m) (samples ∙ sym here.last) (omega (arith, position, here.position)) (place ∙ sym here.place)
          (delay ∙ free_envelope.delay ∙ sym here.delay) (envelope ∙ sym (follows m (omega arith)))

      outs_by : (j : ℕ) (b : Bool) → nat_lt j n ≡ b → j < n + m → number_at given j ≡ (answer_at lane j).out
      outs_by j true test below = let old : j < n = grind (arith, nat_tests, test) in outs_before j old ∙ played.outs_are j old
      outs_by j false test below =
          let new : n ≤ j = grind (arith, nat_tests, test) in
          let part : n + (j - n) ≡ j = omega arith in
          rw part at (outs_then (j - n) (omega (arith, below)) ∙ sym (out_is (j - n) (omega (arith, below)) row is))

      ends_by : (j : ℕ) (b : Bool) → nat_lt j n ≡ b → j < n + m → slice_index after j ≡ slice_index before j + (if (answer_at lane j).ended then 2 ^ own.voice else 0)
      ends_by j true test below = let old : j < n = grind (arith, nat_tests, test) in ends_before j old ∙ played.ends_are j old
      ends_by j false test below =
          let new : n ≤ j = grind (arith, nat_tests, test) in
          let part : n + (j - n) ≡ j = omega arith in
          let marked = ap (λ (b : Bool). slice_index ends (n + (j - n)) + (if b then 2 ^ own.voice else 0)) (sym (ended_is (j - n) (omega (arith, below)))) in
          let earlier = ap (λ (b : ℕ). b + (if (answer_at lane (n + (j - n))).ended then 2 ^ own.voice else 0)) (played.others (n + (j - n)) (omega arith)) in
          rw part at (ends_then (j - n) (omega (arith, below)) ∙ marked ∙ earlier)
