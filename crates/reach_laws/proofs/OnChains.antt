-- A voice stays on its chains.
use Rattle.std.proofs.Common.{◌≡◌, ◌≢◌, ℕ, suc, ◌+◌, ◌-◌, ◌%◌, ◌<◌, List, Bool, true, false, ◌==◌, pos, if◌then◌else◌, ◌⊎◌, inl, inr, refl, sym, ◌∙◌, arith, rules}
use Rattle.aram_core.specs.Memory.{byte_at}
use Rattle.brr_decode.specs.Header.{next_block}
use Rattle.voice_unit.specs.declared.interface.VoiceRegs.{VoiceRegs}
use Rattle.voice_unit.specs.declared.interface.VoiceIn.{VoiceIn}
use Rattle.voice_unit.specs.Directory.{start_word, loop_word}
use Rattle.voice_unit.specs.Voice.{VoiceState, is_at_group, after_delay, step_header, after_decoding, at_next_group, after_reading, after_envelope, after_pitch, playing_voice, voice_step, is_keyed, needs_group}
use Rattle.reach_map.specs.declared.ChainStart.{ChainStart}
use Rattle.dsp_state.specs.declared.state.ChipState.{ChipState}
use Rattle.dsp_state.specs.Reach.{can_start, own_chain, start_chain}
use Rattle.voice_unit.proofs.Groups.{IsGroup, group_of, is_group}
use Rattle.reach_map.proofs.ChainEntries.{chain_entry-zero, chain_entry-suc}
use Rattle.reach_laws.specs.Chain.{IsOnChain, StaysOnChains}

-- a voice in the first block of a chain
pub on_first : (memory : List ℕ) (start : ChainStart) (j : ℕ) (voice : VoiceState) → voice.block ≡ start.block → is_at_group voice ≡ true → IsOnChain memory start j voice
on_first memory start j voice same group =
    let small : voice.offset < 8 = (group_of voice.offset group).within in
    record { index = 0; block = same ∙ sym (chain_entry-zero memory start); group = group; pace = omega (arith, small) }

-- a voice at the same group as one on a chain
pub same_group : {memory : List ℕ} {start : ChainStart} {j : ℕ} {voice : VoiceState} (other : VoiceState) → IsOnChain memory start j voice
    → other.block ≡ voice.block → other.offset ≡ voice.offset → IsOnChain memory start j other
same_group other p block offset = record { index = p.index; block = block ∙ p.block; group = rw offset p.group; pace = rw offset p.pace }

pub one_later : {memory : List ℕ} {start : ChainStart} {j : ℕ} {voice : VoiceState} → IsOnChain memory start j voice → IsOnChain memory start (j + 1) voice
one_later p = record { index = p.index; block = p.block; group = p.group; pace = omega (arith, p.pace) }

-- the next group
next_group : (memory : List ℕ) (start : ChainStart) (j header : ℕ) (voice : VoiceState) → header ≡ byte_at memory voice.block → IsOnChain memory start j voice
    → IsOnChain memory start (j + 1) (at_next_group voice header start.loop_word)
unfolding at_next_group
next_group memory start j header voice same p =
    elim (voice.offset == 7) as (λ b. (voice.offset == 7) ≡ b
    → IsOnChain memory start (j + 1) (if b then record voice { offset = 1; block = next_block header voice.block start.loop_word } else record voice { offset = voice.offset + 2 })) [
      | true ↦ (λ e.
          let seven : voice.offset ≡ 7 = search rules in
          record {
            index = suc p.index;
            block = rw (same, p.block) (sym (chain_entry-suc memory start p.index));
            group = refl;
            pace = omega (arith, p.pace, seven);
          })
      | false ↦ (λ e.
          let other : voice.offset ≢ 7 = search rules in
          let at : IsGroup voice.offset = group_of voice.offset p.group in
          record {
            index = p.index;
            block = p.block;
            group = is_group {offset = voice.offset + 2} record { odd = omega (arith, at.odd); within = omega (arith, at.odd, at.within, other) };
            pace = omega (arith, p.pace, at.odd);
          })
    ] refl

-- a voice that reads a group, or not, stays on its chain
after_reading_on : (memory now : List ℕ) (start : ChainStart) (j header : ℕ) (voice : VoiceState) → header ≡ byte_at memory voice.block → IsOnChain memory start j voice
    → IsOnChain memory start (j + 1) (after_reading voice now header start.loop_word)
unfolding after_reading after_decoding
after_reading_on memory now start j header voice same p =
    elim (needs_group voice) as (λ b. IsOnChain memory start (j + 1) (if b then at_next_group (after_decoding voice now header) header start.loop_word else voice)) [
      | true ↦ next_group memory start j header (after_decoding voice now header) same (same_group (after_decoding voice now header) p refl refl)
      | false ↦ one_later p
    ]

-- a step of the key-on delay but its first leaves the voice at its group
pub after_delay_same : (voice : VoiceState) (start : ℕ) → voice.delay ≢ 5 → ((after_delay voice start).block ≡ voice.block) × ((after_delay voice start).offset ≡ voice.offset)
unfolding after_delay
after_delay_same voice start other =
    let not_five : (voice.delay == 5) ≡ false = search rules in
    elim (voice.delay == 0) as (λ b. ((if b then voice else record {
      samples = voice.samples;
      position = if (voice.delay - 1) % 4 == 0 then 0 else 0x4000;
      block = if voice.delay == 5 then start else voice.block;
      offset = if voice.delay == 5 then 1 else voice.offset;
      delay = voice.delay - 1;
      envelope = record voice.envelope { level = 0; hidden = pos 0 };
    }).block ≡ voice.block) × ((if b then voice else record {
      samples = voice.samples;
      position = if (voice.delay - 1) % 4 == 0 then 0 else 0x4000;
      block = if voice.delay == 5 then start else voice.block;
      offset = if voice.delay == 5 then 1 else voice.offset;
      delay = voice.delay - 1;
      envelope = record voice.envelope { level = 0; hidden = pos 0 };
    }).offset ≡ voice.offset)) [ true ↦ (refl, refl) | false ↦ (rw not_five refl, rw not_five refl) ]

-- the first takes it to the start
pub after_delay_five : (voice : VoiceState) (start : ℕ) → voice.delay ≡ 5 → ((after_delay voice start).block ≡ start) × ((after_delay voice start).offset ≡ 1)
unfolding after_delay
after_delay_five voice start five = (rw five refl, rw five refl)

after_delay_delay : (voice : VoiceState) (start : ℕ) → (after_delay voice start).delay ≡ voice.delay - 1
unfolding after_delay
after_delay_delay voice start =
    elim (voice.delay == 0) as (λ b. (voice.delay == 0) ≡ b → (if b then voice else record {
      samples = voice.samples;
      position = if (voice.delay - 1) % 4 == 0 then 0 else 0x4000;
      block = if voice.delay == 5 then start else voice.block;
      offset = if voice.delay == 5 then 1 else voice.offset;
      delay = voice.delay - 1;
      envelope = record voice.envelope { level = 0; hidden = pos 0 };
    }).delay ≡ voice.delay - 1) [ true ↦ (λ e. let none : voice.delay ≡ 0 = search rules in omega arith) | false ↦ (λ e. refl) ] refl

-- a step of a voice that is not at the first of its key-on delay keeps it on its chain
step_on_chain : (memory now : List ℕ) (start : ChainStart) (j counter : ℕ) (voice : VoiceState) (r : VoiceRegs) (i : VoiceIn)
    → loop_word i.dir r.srcn now ≡ start.loop_word → byte_at now voice.block ≡ byte_at memory voice.block → voice.delay ≢ 5
    → IsOnChain memory start j voice → IsOnChain memory start (j + 1) (voice_step voice r i now counter)
unfolding voice_step after_pitch after_envelope step_header
step_on_chain memory now start j counter voice r i same_loop same other p =
    let not_five : (voice.delay == 5) ≡ false = search rules in
    let playing : VoiceState = playing_voice voice r i now in
    let still = after_delay_same voice (start_word i.dir r.srcn now) other in
    let sounding : VoiceState = after_envelope playing r i (step_header voice now) counter in
    let header : step_header voice now ≡ byte_at memory sounding.block = rw (not_five, still.0) same in
    let on : IsOnChain memory start j sounding = same_group sounding p still.0 still.1 in
    let read : IsOnChain memory start (j + 1) (after_reading sounding now (step_header voice now) start.loop_word) = after_reading_on memory now start j (step_header voice now) sounding header on in
    same_group (voice_step voice r i now counter) read (rw same_loop refl) (rw same_loop refl)

-- the first step of the key-on delay takes the voice to the start of its sample
step_to_start : (now : List ℕ) (counter : ℕ) (voice : VoiceState) (r : VoiceRegs) (i : VoiceIn) → voice.delay ≡ 5
    → ((voice_step voice r i now counter).block ≡ start_word i.dir r.srcn now) × ((voice_step voice r i now counter).offset ≡ 1)
unfolding voice_step after_pitch after_envelope after_delay after_reading
step_to_start now counter voice r i five = (rw five refl, rw five refl)

after_reading_delay : (voice : VoiceState) (now : List ℕ) (header to : ℕ) → (after_reading voice now header to).delay ≡ voice.delay
unfolding after_reading at_next_group after_decoding
after_reading_delay voice now header to =
    elim (needs_group voice) as (λ b. (if b then at_next_group (after_decoding voice now header) header to else voice).delay ≡ voice.delay) [
      | true ↦ elim (voice.offset == 7) as (λ b. (if b then record (after_decoding voice now header) { offset = 1; block = next_block header voice.block to } else record (after_decoding voice now header) { offset = voice.offset + 2 }).delay ≡ voice.delay) [ true ↦ refl | false ↦ refl ]
      | false ↦ refl
    ]

step_delay : (now : List ℕ) (counter : ℕ) (voice : VoiceState) (r : VoiceRegs) (i : VoiceIn) → (voice_step voice r i now counter).delay ≡ (if is_keyed i then 5 else voice.delay - 1)
unfolding voice_step after_pitch after_envelope
step_delay now counter voice r i = rw (after_reading_delay, after_delay_delay) refl

waits_still : (keyed starts : Bool) (delay : ℕ) → (keyed ≡ true → starts ≡ true) → (delay ≢ 0 → starts ≡ true) → (if keyed then 5 else delay - 1) ≢ 0 → starts ≡ true
waits_still true starts delay h g n = h refl
waits_still false starts delay h g n = g (λ e. n (omega arith))

-- what a step finds as it was when the reach was taken: the words of the voice's entry and the header of its block
pub record SeesTheSame (s : ChipState) (memory : List ℕ) (v : ℕ) (old new : VoiceState) (r : VoiceRegs) (i : VoiceIn) (now : List ℕ) : Type 0 where
  pub start : start_word i.dir r.srcn now ≡ (start_chain s memory v).block
  pub loop : loop_word i.dir r.srcn now ≡ (start_chain s memory v).loop_word
  pub header : byte_at now new.block ≡ byte_at memory new.block
  pub keyed : is_keyed i ≡ true → can_start s v old ≡ true

-- one step keeps a voice on its chains
pub step_on_chains : (s : ChipState) (memory now : List ℕ) (j v counter : ℕ) (old new : VoiceState) (r : VoiceRegs) (i : VoiceIn) → SeesTheSame s memory v old new r i now
    → StaysOnChains s memory j v old new → StaysOnChains s memory (j + 1) v old (voice_step new r i now counter)
step_on_chains s memory now j v counter old new r i sees stays =
    let next : VoiceState = voice_step new r i now counter in
    let own : ChainStart = own_chain s memory v old in
    let begin : ChainStart = start_chain s memory v in
    let waits : next.delay ≢ 0 → can_start s v old ≡ true = rw step_delay (waits_still (is_keyed i) (can_start s v old) new.delay sees.keyed stays.waits) in
    let going : new.delay ≢ 5 → IsOnChain memory own (j + 1) next ⊎ ((can_start s v old ≡ true) × IsOnChain memory begin (j + 1) next) =
    λ other. elim stays.on [
      | inl p ↦ inl (step_on_chain memory now own j counter new r i sees.loop sees.header other p)
      | inr q ↦ inr (q.0, step_on_chain memory now begin j counter new r i sees.loop sees.header other q.1)
    ] in
    let begun : new.delay ≡ 5 → IsOnChain memory own (j + 1) next ⊎ ((can_start s v old ≡ true) × IsOnChain memory begin (j + 1) next) =
    λ five.
    let at = step_to_start now counter new r i five in
    inr (stays.waits (λ e. absurd (omega arith)), on_first memory begin (j + 1) next (at.0 ∙ sees.start) (is_group {offset = next.offset} record { odd = rw at.1 refl; within = rw at.1 (omega arith) })) in
    record {
      on = elim (new.delay == 5) as (λ b. (new.delay == 5) ≡ b → IsOnChain memory own (j + 1) next ⊎ ((can_start s v old ≡ true) × IsOnChain memory begin (j + 1) next))
          [ true ↦ (λ e. begun (search rules)) | false ↦ (λ e. going (search rules)) ] refl;
      waits = waits;
    }
