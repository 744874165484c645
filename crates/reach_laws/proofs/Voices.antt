-- All voices stay on their chains, and read nothing but the pages of their entries and chains.
use Rattle.std.proofs.Common.{◌≡◌, ◌≢◌, ℕ, ◌+◌, ◌*◌, ◌%◌, ◌≤◌, List, [], ◌∷◌, ◌++◌, length, map, flat_map, true, false, ◌&&◌, ◌==◌, inl, inr, refl, ap, sym, ◌∙◌, arith, slice_index, ℤ}
use Rattle.std.specs.List.{list_all}
use Rattle.std.proofs.lemmas.Bool.{and_parts, or_right}
use Rattle.std.proofs.lemmas.Bool.Decides.{nat_tests}
use Rattle.std.proofs.lemmas.Grind.{flat_map-append}
use Rattle.num_fix.specs.Arithmetic.{has_bit}
use Rattle.aram_core.specs.Memory.{with_byte}
use Rattle.aram_core.specs.Pages.{page_of, has_page}
use Rattle.voice_unit.specs.Directory.{entry_address, start_word, loop_word}
use Rattle.voice_unit.specs.Voice.{VoiceState}
use Rattle.reach_map.specs.declared.ChainStart.{ChainStart}
use Rattle.reach_map.specs.Reach.{entry_pages, chain_pages, voice_pages}
use Rattle.dsp_state.specs.declared.registers.TheConstants.{SRCN, DIR}
use Rattle.dsp_state.specs.declared.state.ChipState.{ChipState}
use Rattle.dsp_state.specs.Registers.{voice_regs}
use Rattle.dsp_state.specs.Results.{is_result}
use Rattle.dsp_state.specs.Sample.{SharedInput, VoiceResult, voice_in, voice_result, results_from}
use Rattle.dsp_state.specs.Reach.{voice_entry, entries_from, can_start, own_chain, voice_starts, starts_from}
use Rattle.voice_unit.specs.Voice.{is_at_group}
use Rattle.echo_unit.specs.Echo.{is_at_cell}
use Rattle.dsp_state.specs.Valid.{is_valid}
use Rattle.reach_laws.specs.Chain.{StaysOnChains, AllStayOnChains}
use Rattle.reach_laws.proofs.PageSets.{in_left, in_right, in_either}
use Rattle.reach_laws.proofs.Agree.{voice_result_same}
use Rattle.reach_laws.proofs.OnChains.{on_first, SeesTheSame, step_on_chains}
use Rattle.reach_laws.proofs.Same.{AreSameFor, AllSameFor, at_address, start_same, loop_same, block_same, agrees}
use Rattle.reach_laws.proofs.ChainPages.{own_pages, AgreeOn, agree_put, same_for}

-- the pages of the voices from v on
abbrev pub voice_pages_from : ChipState → List ℕ → (v : ℕ) → (olds : List VoiceState) → List ℕ
voice_pages_from s memory v olds = voice_pages memory (starts_from s memory v olds) (entries_from s.registers v olds)

-- the pages of a voice and those of the rest are pages of all
first_in : (memory : List ℕ) (starts rest : List ChainStart) (entry : ℕ) (entries : List ℕ) (p : ℕ)
    → has_page (voice_pages memory starts (entry ∷ [])) p ≡ true → has_page (voice_pages memory (starts ++ rest) (entry ∷ entries)) p ≡ true
first_in memory starts rest entry entries p h =
    let chains : (flat_map (chain_pages memory) starts ++ flat_map (chain_pages memory) rest) ≡ flat_map (chain_pages memory) (starts ++ rest) = sym (flat_map-append (chain_pages memory) starts rest) in
    elim (in_either (flat_map entry_pages (entry ∷ [])) (flat_map (chain_pages memory) starts) p h) [
      | inl e ↦ in_left (flat_map entry_pages (entry ∷ entries)) (flat_map (chain_pages memory) (starts ++ rest)) p
          (elim (in_either (entry_pages entry) [] p e) [
            | inl here ↦ in_left (entry_pages entry) (flat_map entry_pages entries) p here
            | inr none ↦ in_left (entry_pages entry) (flat_map entry_pages entries) p (absurd (nothing none))
          ])
      | inr c ↦ in_right (flat_map entry_pages (entry ∷ entries)) (flat_map (chain_pages memory) (starts ++ rest)) p
          (ap (λ (pages : List ℕ). has_page pages p) (sym chains) ∙ in_left (flat_map (chain_pages memory) starts) (flat_map (chain_pages memory) rest) p c)
    ]
  where
    nothing : false ≡ true → ⊥
    nothing none = cc

rest_in : (memory : List ℕ) (starts rest : List ChainStart) (entry : ℕ) (entries : List ℕ) (p : ℕ)
    → has_page (voice_pages memory rest entries) p ≡ true → has_page (voice_pages memory (starts ++ rest) (entry ∷ entries)) p ≡ true
rest_in memory starts rest entry entries p h =
    let chains : (flat_map (chain_pages memory) starts ++ flat_map (chain_pages memory) rest) ≡ flat_map (chain_pages memory) (starts ++ rest) = sym (flat_map-append (chain_pages memory) starts rest) in
    elim (in_either (flat_map entry_pages entries) (flat_map (chain_pages memory) rest) p h) [
      | inl e ↦ in_left (flat_map entry_pages (entry ∷ entries)) (flat_map (chain_pages memory) (starts ++ rest)) p (in_right (entry_pages entry) (flat_map entry_pages entries) p e)
      | inr c ↦ in_right (flat_map entry_pages (entry ∷ entries)) (flat_map (chain_pages memory) (starts ++ rest)) p
          (ap (λ (pages : List ℕ). has_page pages p) (sym chains) ∙ in_right (flat_map (chain_pages memory) starts) (flat_map (chain_pages memory) rest) p c)
    ]

-- What the voices from v on find after j samples as it was when the reach was taken: the registers but those that samples write,
-- the bytes where they can look, and key-ons of no voice but those that were pending.
pub record FindTheSame (s : ChipState) (memory : List ℕ) (j v : ℕ) (olds : List VoiceState) (shared : SharedInput) : Type 0 where
  pub registers : (address : ℕ) → is_result address ≡ false → slice_index shared.registers address ≡ slice_index s.registers address
  pub bytes : AllSameFor s memory j v olds shared.memory memory
  pub keyed : (u : ℕ) → (shared.common.is_poll && has_bit shared.common.kon_latched u) ≡ true → has_bit s.hidden.kon_pending u ≡ true

-- the bytes of all but the first
pub rest_agree : (s : ChipState) (memory : List ℕ) (v : ℕ) (old : VoiceState) (olds : List VoiceState) (m n : List ℕ)
    → AgreeOn (voice_pages_from s memory v (old ∷ olds)) m n → AgreeOn (voice_pages_from s memory (v + 1) olds) m n
rest_agree s memory v old olds m n same at some =
    same at (rest_in memory (voice_starts s memory v old) (starts_from s memory (v + 1) olds) (voice_entry s.registers v) (entries_from s.registers (v + 1) olds) (page_of at) some)

-- the same of the rest of the voices
rest_find : (s : ChipState) (memory : List ℕ) (j v : ℕ) (old : VoiceState) (olds : List VoiceState) (shared : SharedInput)
    → FindTheSame s memory j v (old ∷ olds) shared → FindTheSame s memory j (v + 1) olds shared
rest_find s memory j v old olds shared find = record { registers = find.registers; bytes = find.bytes.1; keyed = find.keyed }

-- the bytes of the first of them
pub first_agree : (s : ChipState) (memory : List ℕ) (v : ℕ) (old : VoiceState) (olds : List VoiceState) (m n : List ℕ)
    → AgreeOn (voice_pages_from s memory v (old ∷ olds)) m n → AgreeOn (own_pages s memory v old) m n
first_agree s memory v old olds m n same at some =
    same at (first_in memory (voice_starts s memory v old) (starts_from s memory (v + 1) olds) (voice_entry s.registers v) (entries_from s.registers (v + 1) olds) (page_of at) some)

-- memories that agree on the pages of the voices have the same bytes where they can look
pub all_same : (s : ChipState) (memory : List ℕ) (j v : ℕ) (olds : List VoiceState) (m n : List ℕ) → j ≤ 64 → AgreeOn (voice_pages_from s memory v olds) m n → AllSameFor s memory j v olds m n
all_same s memory j v [] m n few same = tt
all_same s memory j v (old ∷ olds) m n few same =
    (same_for s memory j v old m n few (first_agree s memory v old olds m n same), all_same s memory j (v + 1) olds m n few (rest_agree s memory v old olds m n same))

is_result-srcn : (v : ℕ) → is_result (16 * v + SRCN) ≡ false
is_result-srcn v =
    let register : (16 * v + 4) % 0x80 % 16 ≡ 4 = omega arith in
    let other : ((16 * v + 4) % 0x80 == 0x7c) ≡ false = let h : (16 * v + 4) % 0x80 ≢ 0x7c = omega arith in grind (arith, nat_tests, h) in
    rw (register, other) refl

-- the entry of a voice
entry_same : (s : ChipState) (memory : List ℕ) (j v : ℕ) (previous : ℤ) (olds : List VoiceState) (shared : SharedInput) → FindTheSame s memory j v olds shared
    → entry_address (voice_in shared.registers shared.common v previous).dir (voice_regs shared.registers v).srcn ≡ voice_entry s.registers v
unfolding voice_in voice_regs
entry_same s memory j v previous olds shared find = rw (find.registers DIR refl, find.registers (16 * v + SRCN) (is_result-srcn v)) refl

-- what a voice on its chains finds
first_sees : (s : ChipState) (memory : List ℕ) (j v : ℕ) (previous : ℤ) (old new : VoiceState) (olds : List VoiceState) (shared : SharedInput)
    → FindTheSame s memory j v (old ∷ olds) shared → StaysOnChains s memory j v old new
    → SeesTheSame s memory v old new (voice_regs shared.registers v) (voice_in shared.registers shared.common v previous) shared.memory
unfolding start_word loop_word voice_in
first_sees s memory j v previous old new olds shared find stays =
    let entry = entry_same s memory j v previous (old ∷ olds) shared find in
    let same : AreSameFor s memory j v old shared.memory memory = find.bytes.0 in
    record {
      start = rw entry (start_same (voice_entry s.registers v) shared.memory memory same.entry);
      loop = rw entry (loop_same (voice_entry s.registers v) shared.memory memory same.entry);
      header = at_address shared.memory memory (new.block + 0) new.block (omega arith) (block_same s memory j v old new shared.memory memory 0 stays same (omega arith));
      keyed = λ keyed. rw (find.keyed v keyed) refl;
    }

-- one sample keeps the voices on their chains
pub voices_stay : (s : ChipState) (memory : List ℕ) (j v : ℕ) (previous : ℤ) (shared : SharedInput) (olds news : List VoiceState) → FindTheSame s memory j v olds shared
    → AllStayOnChains s memory j v olds news
    → AllStayOnChains s memory (j + 1) v olds (map (λ (result : VoiceResult). result.voice) (results_from shared v previous news))
unfolding voice_result
voices_stay s memory j v previous shared [] [] find stay = tt
voices_stay s memory j v previous shared [] (new ∷ news) find stay = absurd stay
voices_stay s memory j v previous shared (old ∷ olds) [] find stay = absurd stay
voices_stay s memory j v previous shared (old ∷ olds) (new ∷ news) find stay =
    let sees = first_sees s memory j v previous old new olds shared find stay.0 in (
      step_on_chains s memory shared.memory j v shared.counter old new (voice_regs shared.registers v) (voice_in shared.registers shared.common v previous) sees stay.0,
      voices_stay s memory j (v + 1) (voice_result shared v previous new).answer.out shared olds news (rest_find s memory j v old olds shared find) stay.1,
    )

-- memories that have the same bytes where the voices can look give them the same results
pub results_same : (s : ChipState) (memory : List ℕ) (j v : ℕ) (previous : ℤ) (shared : SharedInput) (m : List ℕ) (olds news : List VoiceState) → FindTheSame s memory j v olds shared
    → AllStayOnChains s memory j v olds news → AllSameFor s memory j v olds m shared.memory
    → results_from (record shared { memory = m }) v previous news ≡ results_from shared v previous news
results_same s memory j v previous shared m [] [] find stay same = refl
results_same s memory j v previous shared m [] (new ∷ news) find stay same = absurd stay
results_same s memory j v previous shared m (old ∷ olds) [] find stay same = absurd stay
results_same s memory j v previous shared m (old ∷ olds) (new ∷ news) find stay same =
    let entry = entry_same s memory j v previous (old ∷ olds) shared find in
    let sees = first_sees s memory j v previous old new olds shared find stay.0 in
    let agree = agrees s memory j v old new (voice_regs shared.registers v) (voice_in shared.registers shared.common v previous) m shared.memory entry sees stay.0 same.0 in
    let first : voice_result (record shared { memory = m }) v previous new ≡ voice_result shared v previous new = voice_result_same shared m v previous new agree in
    let rest : results_from (record shared { memory = m }) (v + 1) (voice_result shared v previous new).answer.out news ≡ results_from shared (v + 1) (voice_result shared v previous new).answer.out news =
    results_same s memory j (v + 1) (voice_result shared v previous new).answer.out shared m olds news (rest_find s memory j v old olds shared find) stay.1 same.1 in
    rw first (ap (λ (results : List VoiceResult). voice_result shared v previous new ∷ results) rest)

-- a byte that is put off their pages gives the voices the same results
pub voices_apart : (s : ChipState) (memory : List ℕ) (j v : ℕ) (previous : ℤ) (shared : SharedInput) (olds news : List VoiceState) (at value : ℕ) → FindTheSame s memory j v olds shared → j ≤ 64
    → AllStayOnChains s memory j v olds news → has_page (voice_pages_from s memory v olds) (page_of at) ≡ false
    → results_from (record shared { memory = with_byte shared.memory at value }) v previous news ≡ results_from shared v previous news
voices_apart s memory j v previous shared olds news at value find few stay none =
    results_same s memory j v previous shared (with_byte shared.memory at value) olds news find stay
    (all_same s memory j v olds (with_byte shared.memory at value) shared.memory few (agree_put (voice_pages_from s memory v olds) shared.memory at value none))

-- when the reach is taken, each voice stands in the first block of its own chain
all_at_start : (s : ChipState) (memory : List ℕ) (v : ℕ) (voices : List VoiceState) → list_all is_at_group voices ≡ true → AllStayOnChains s memory 0 v voices voices
all_at_start s memory v [] groups = tt
all_at_start s memory v (voice ∷ voices) groups =
    let both = and_parts (is_at_group voice) (list_all is_at_group voices) groups in
    (record { on = inl (on_first memory (own_chain s memory v voice) 0 voice refl both.0); waits = kon_pending }, all_at_start s memory (v + 1) voices both.1)
  where
    kon_pending : voice.delay ≢ 0 → can_start s v voice ≡ true
    kon_pending some = let no : (voice.delay == 0) ≡ false = grind (arith, nat_tests, some) in rw no (or_right (has_bit s.hidden.kon_pending v) true refl)

pub voices_at_start : (s : ChipState) (memory : List ℕ) → is_valid s ≡ true → AllStayOnChains s memory 0 0 s.hidden.voices s.hidden.voices
unfolding is_valid
voices_at_start s memory valid =
    let parts = and_parts (length s.hidden.voices == 8 && list_all is_at_group s.hidden.voices) (is_at_cell s.hidden.echo) valid in
    all_at_start s memory 0 s.hidden.voices (and_parts (length s.hidden.voices == 8) (list_all is_at_group s.hidden.voices) parts.0).1
