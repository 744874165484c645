-- Two memories that have the same bytes where voices on their chains can look.
use Rattle.std.proofs.Common.{◌≡◌, ◌≢◌, ℕ, ◌+◌, ◌*◌, ◌%◌, ◌<◌, ◌≤◌, List, [], ◌∷◌, true, false, ◌==◌, inl, inr, refl, ap, sym, ◌∙◌, arith, rules}
use Rattle.aram_core.specs.Memory.{byte_at, word_at}
use Rattle.voice_unit.specs.declared.interface.VoiceRegs.{VoiceRegs}
use Rattle.voice_unit.specs.declared.interface.VoiceIn.{VoiceIn}
use Rattle.voice_unit.specs.Directory.{entry_address, start_word, loop_word}
use Rattle.voice_unit.specs.Voice.{VoiceState, playing_voice, step_header}
use Rattle.voice_unit.proofs.Groups.{group_of}
use Rattle.reach_map.specs.declared.ChainStart.{ChainStart}
use Rattle.reach_map.specs.Reach.{chain_entry}
use Rattle.reach_map.proofs.ChainEntries.{chain_entry-zero}
use Rattle.dsp_state.specs.declared.state.ChipState.{ChipState}
use Rattle.dsp_state.specs.Reach.{voice_entry, can_start, own_chain, start_chain}
use Rattle.reach_laws.specs.Chain.{IsOnChain, StaysOnChains}
use Rattle.reach_laws.proofs.Agree.{AgreeFor}
use Rattle.reach_laws.proofs.OnChains.{after_delay_same, after_delay_five, SeesTheSame}

-- the bytes of the blocks of a chain to which a voice can have come after j samples
abbrev pub AreSameOnChain : (memory : List ℕ) → ChainStart → (j : ℕ) → (m n : List ℕ) → Type 0
AreSameOnChain memory start j m n =
    (i k : ℕ) → 4 * i ≤ j + 3 → k < 9 → byte_at m (chain_entry memory start i + k) ≡ byte_at n (chain_entry memory start i + k)

-- those that voice v can read after them
pub record AreSameFor (s : ChipState) (memory : List ℕ) (j v : ℕ) (old : VoiceState) (m n : List ℕ) : Type 0 where
  pub entry : (k : ℕ) → k < 4 → byte_at m (voice_entry s.registers v + k) ≡ byte_at n (voice_entry s.registers v + k)
  pub own : AreSameOnChain memory (own_chain s memory v old) j m n
  pub start : can_start s v old ≡ true → AreSameOnChain memory (start_chain s memory v) j m n

-- those that the voices from v on can read
abbrev pub AllSameFor : ChipState → (memory : List ℕ) → (j v : ℕ) → (olds : List VoiceState) → (m n : List ℕ) → Type 0
AllSameFor s memory j v [] m n = Unit {0}
AllSameFor s memory j v (old ∷ olds) m n = AreSameFor s memory j v old m n × AllSameFor s memory j (v + 1) olds m n

-- bytes at an address, written otherwise
pub at_address : (m n : List ℕ) (a b : ℕ) → a ≡ b → byte_at m a ≡ byte_at n a → byte_at m b ≡ byte_at n b
at_address m n a b same h = ap (λ (x : ℕ). byte_at m x) (sym same) ∙ h ∙ ap (λ (x : ℕ). byte_at n x) same

-- the words of an entry
pub start_same : (e : ℕ) (m n : List ℕ) → ((k : ℕ) → k < 4 → byte_at m (e + k) ≡ byte_at n (e + k)) → word_at m e ≡ word_at n e
unfolding word_at
start_same e m n same =
    let first : byte_at m e ≡ byte_at n e = at_address m n (e + 0) e (omega arith) (same 0 (omega arith)) in
    rw (first, same 1 (omega arith)) refl

byte_of_entry : (e a k : ℕ) (m n : List ℕ) → (a % 0x10000) ≡ ((e + k) % 0x10000) → byte_at m (e + k) ≡ byte_at n (e + k) → byte_at m a ≡ byte_at n a
byte_of_entry e a k m n is same = rw is same

pub loop_same : (e : ℕ) (m n : List ℕ) → ((k : ℕ) → k < 4 → byte_at m (e + k) ≡ byte_at n (e + k)) → word_at m ((e + 2) % 0x10000) ≡ word_at n ((e + 2) % 0x10000)
unfolding word_at
loop_same e m n same =
    let low : byte_at m ((e + 2) % 0x10000) ≡ byte_at n ((e + 2) % 0x10000) = byte_of_entry e ((e + 2) % 0x10000) 2 m n (omega arith) (same 2 (omega arith)) in
    let high : byte_at m ((e + 2) % 0x10000 + 1) ≡ byte_at n ((e + 2) % 0x10000 + 1) = byte_of_entry e ((e + 2) % 0x10000 + 1) 3 m n (omega arith) (same 3 (omega arith)) in
    rw (low, high) refl

-- the 9 bytes of the block of a voice on a chain
on_chain_same : {memory : List ℕ} {start : ChainStart} {j : ℕ} {voice : VoiceState} (p : IsOnChain memory start j voice) (m n : List ℕ) (k : ℕ) → AreSameOnChain memory start j m n → k < 9
    → byte_at m (voice.block + k) ≡ byte_at n (voice.block + k)
on_chain_same {memory = memory} {start = start} p m n k same small =
    at_address m n (chain_entry memory start p.index + k) _ (ap (λ (b : ℕ). b + k) (sym p.block)) (same p.index k (omega (arith, p.pace)) small)

-- and of one on its chains
pub block_same : (s : ChipState) (memory : List ℕ) (j v : ℕ) (old new : VoiceState) (m n : List ℕ) (k : ℕ) → StaysOnChains s memory j v old new → AreSameFor s memory j v old m n → k < 9
    → byte_at m (new.block + k) ≡ byte_at n (new.block + k)
block_same s memory j v old new m n k stays same small = elim stays.on [
  | inl p ↦ on_chain_same p m n k same.own small
  | inr q ↦ on_chain_same q.1 m n k (same.start q.0) small
]

-- the two bytes of the group that a step may read
group_same : (s : ChipState) (memory : List ℕ) (j v : ℕ) (old new : VoiceState) (r : VoiceRegs) (i : VoiceIn) (m now : List ℕ) (k : ℕ) → SeesTheSame s memory v old new r i now
    → StaysOnChains s memory j v old new → AreSameFor s memory j v old m now → k < 2
    → byte_at m ((playing_voice new r i now).block + ((playing_voice new r i now).offset + k)) ≡ byte_at now ((playing_voice new r i now).block + ((playing_voice new r i now).offset + k))
group_same s memory j v old new r i m now k sees stays same small =
    let word : ℕ = start_word i.dir r.srcn now in
    elim (new.delay == 5) as (λ b. (new.delay == 5) ≡ b → byte_at m ((playing_voice new r i now).block + ((playing_voice new r i now).offset + k)) ≡ byte_at now ((playing_voice new r i now).block + ((playing_voice new r i now).offset + k))) [
      | true ↦ (λ e.
          let five : new.delay ≡ 5 = search rules in
          let at = after_delay_five new word five in
          let begin : ChainStart = start_chain s memory v in
          let first : chain_entry memory begin 0 + (1 + k) ≡ begin.block + (1 + k) = ap (λ (b : ℕ). b + (1 + k)) (chain_entry-zero memory begin) in
          let group : begin.block + (1 + k) ≡ (playing_voice new r i now).block + ((playing_voice new r i now).offset + k) = rw (at.0, at.1, sees.start) refl in
          at_address m now (chain_entry memory begin 0 + (1 + k)) _ (first ∙ group) (same.start (stays.waits (λ n. absurd (omega arith))) 0 (1 + k) (omega arith) (omega arith)))
      | false ↦ (λ e.
          let other : new.delay ≢ 5 = search rules in
          let at = after_delay_same new word other in
          let within : new.offset < 8 = elim stays.on [ inl p ↦ (group_of new.offset p.group).within | inr q ↦ (group_of new.offset q.1.group).within ] in
          let group : new.block + (new.offset + k) ≡ (playing_voice new r i now).block + ((playing_voice new r i now).offset + k) = rw (at.0, at.1) refl in
          at_address m now (new.block + (new.offset + k)) _ group (block_same s memory j v old new m now (new.offset + k) stays same (omega arith)))
    ] refl

-- so they agree where a voice on its chains looks in a step
pub agrees : (s : ChipState) (memory : List ℕ) (j v : ℕ) (old new : VoiceState) (r : VoiceRegs) (i : VoiceIn) (m now : List ℕ)
    → entry_address i.dir r.srcn ≡ voice_entry s.registers v → SeesTheSame s memory v old new r i now
    → StaysOnChains s memory j v old new → AreSameFor s memory j v old m now → AgreeFor new r i m now
unfolding start_word loop_word step_header
agrees s memory j v old new r i m now entry sees stays same =
    let playing : VoiceState = playing_voice new r i now in
    let at : ℕ = playing.block + playing.offset in
    let header : byte_at m new.block ≡ byte_at now new.block =
    at_address m now (new.block + 0) new.block (omega arith) (block_same s memory j v old new m now 0 stays same (omega arith)) in
    record {
      start = rw entry (start_same (voice_entry s.registers v) m now same.entry);
      loop = rw entry (loop_same (voice_entry s.registers v) m now same.entry);
      header = rw header refl;
      low = at_address m now (playing.block + (playing.offset + 0)) at (omega arith) (group_same s memory j v old new r i m now 0 sees stays same (omega arith));
      high = at_address m now (playing.block + (playing.offset + 1)) (at + 1) (omega arith) (group_same s memory j v old new r i m now 1 sees stays same (omega arith));
    }
