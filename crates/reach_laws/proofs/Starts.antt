-- A byte that is put outside of the reach leaves the reach as it is.
use Rattle.std.proofs.Common.{◌≡◌, ℕ, zero, suc, ◌+◌, List, [], ◌∷◌, ◌++◌, flat_map, Bool, true, false, ◌&&◌, if◌then◌else◌, refl, ap, ◌∙◌, arith, slice_index}
use Rattle.std.specs.FinSet as set
use Rattle.aram_core.specs.Memory.{byte_at, with_byte}
use Rattle.aram_core.specs.Pages.{page_of, has_page, have_common_page}
use Rattle.brr_decode.specs.Header.{next_block}
use Rattle.voice_unit.specs.Directory.{start_word, loop_word}
use Rattle.voice_unit.specs.Voice.{VoiceState}
use Rattle.echo_unit.specs.Flg.{has_echo_writes}
use Rattle.aram_core.specs.declared.window.Window.{Window}
use Rattle.reach_map.specs.declared.ChainStart.{ChainStart}
use Rattle.reach_map.specs.Reach.{chain, block_pages, chain_pages, entry_pages, voice_pages, window_pages, reach}
use Rattle.dsp_state.specs.declared.registers.TheConstants.{FLG}
use Rattle.dsp_state.specs.declared.state.ChipState.{ChipState}
use Rattle.dsp_state.specs.Reach.{voice_entry, entries_from, voice_starts, starts_from, chip_window, chip_reach}
use Rattle.reach_laws.proofs.PageSets.{at_page, in_left, in_right}
use Rattle.reach_laws.proofs.Same.{AreSameFor, start_same, loop_same}
use Rattle.reach_laws.proofs.ChainPages.{bytes_have, own_pages, AgreeOn, agree_put, same_for}
use Rattle.reach_laws.proofs.ReachOfChip.{unread_by_voices}
use Rattle.reach_laws.proofs.Voices.{voice_pages_from, first_agree, rest_agree}

-- memories that agree on the pages of a chain have the same chain
chain_same : (memory m : List ℕ) (loop_word count block : ℕ) → AgreeOn (flat_map block_pages (chain memory loop_word count block)) m memory
    → chain m loop_word count block ≡ chain memory loop_word count block
chain_same memory m loop_word zero block same = refl
chain_same memory m loop_word (suc count) block same =
    let next : ℕ = next_block (byte_at memory block) block loop_word in
    let block0 : page_of (block + 0) ≡ page_of block = ap page_of (omega arith) in
    let here : has_page (block_pages block) (page_of block) ≡ true = at_page (block_pages block) _ _ block0 (bytes_have block 9 0 (omega arith)) in
    let header : byte_at m block ≡ byte_at memory block = same block (in_left (block_pages block) (flat_map block_pages (chain memory loop_word count next)) _ here) in
    let rest : chain m loop_word count next ≡ chain memory loop_word count next =
    chain_same memory m loop_word count next (λ at some. same at (in_right (block_pages block) (flat_map block_pages (chain memory loop_word count next)) (page_of at) some)) in
    ap (λ (h : ℕ). block ∷ chain m loop_word count (next_block h block loop_word)) header ∙ ap (λ (blocks : List ℕ). block ∷ blocks) rest

-- and the pages of several chains
chains_same : (memory m : List ℕ) (starts : List ChainStart) → AgreeOn (flat_map (chain_pages memory) starts) m memory
    → flat_map (chain_pages m) starts ≡ flat_map (chain_pages memory) starts
chains_same memory m [] same = refl
chains_same memory m (start ∷ starts) same =
    let first : chain_pages m start ≡ chain_pages memory start =
    ap (λ (blocks : List ℕ). flat_map block_pages blocks)
    (chain_same memory m start.loop_word 18 start.block (λ at some. same at (in_left (chain_pages memory start) (flat_map (chain_pages memory) starts) (page_of at) some))) in
    let rest : flat_map (chain_pages m) starts ≡ flat_map (chain_pages memory) starts =
    chains_same memory m starts (λ at some. same at (in_right (chain_pages memory start) (flat_map (chain_pages memory) starts) (page_of at) some)) in
    ap (λ (pages : List ℕ). pages ++ flat_map (chain_pages m) starts) first ∙ ap (λ (pages : List ℕ). chain_pages memory start ++ pages) rest

-- the same pages of voices that stand at the same starts
pub voice_pages_same : (memory m : List ℕ) (starts : List ChainStart) (entries : List ℕ) → AgreeOn (voice_pages memory starts entries) m memory
    → voice_pages m starts entries ≡ voice_pages memory starts entries
voice_pages_same memory m starts entries same =
    ap (λ (pages : List ℕ). flat_map entry_pages entries ++ pages)
    (chains_same memory m starts (λ at some. same at (in_right (flat_map entry_pages entries) (flat_map (chain_pages memory) starts) (page_of at) some)))

-- where a voice can be
voice_starts_same : (s : ChipState) (memory m : List ℕ) (v : ℕ) (voice : VoiceState) → AgreeOn (own_pages s memory v voice) m memory
    → voice_starts s m v voice ≡ voice_starts s memory v voice
unfolding start_word loop_word
voice_starts_same s memory m v voice same =
    let bytes : AreSameFor s memory 0 v voice m memory = same_for s memory 0 v voice m memory (omega arith) same in
    rw (start_same (voice_entry s.registers v) m memory bytes.entry, loop_same (voice_entry s.registers v) m memory bytes.entry) refl

-- where the voices from v on can be
pub starts_from_same : (s : ChipState) (memory m : List ℕ) (v : ℕ) (voices : List VoiceState) → AgreeOn (voice_pages_from s memory v voices) m memory
    → starts_from s m v voices ≡ starts_from s memory v voices
starts_from_same s memory m v [] same = refl
starts_from_same s memory m v (voice ∷ voices) same =
    let first : voice_starts s m v voice ≡ voice_starts s memory v voice = voice_starts_same s memory m v voice (first_agree s memory v voice voices m memory same) in
    let rest : starts_from s m (v + 1) voices ≡ starts_from s memory (v + 1) voices =
    starts_from_same s memory m (v + 1) voices (rest_agree s memory v voice voices m memory same) in
    ap (λ (starts : List ChainStart). starts ++ starts_from s m (v + 1) voices) first ∙ ap (λ (starts : List ChainStart). voice_starts s memory v voice ++ starts) rest

pub pages_from_same : (s : ChipState) (memory m : List ℕ) (v : ℕ) (voices : List VoiceState) → AgreeOn (voice_pages_from s memory v voices) m memory
    → voice_pages_from s m v voices ≡ voice_pages_from s memory v voices
pages_from_same s memory m v voices same =
    ap (λ (starts : List ChainStart). voice_pages m starts (entries_from s.registers v voices)) (starts_from_same s memory m v voices same)
    ∙ voice_pages_same memory m (starts_from s memory v voices) (entries_from s.registers v voices) same

-- a byte that is put on none of the pages of voices
pub pages_stay : (s : ChipState) (memory : List ℕ) (v : ℕ) (voices : List VoiceState) (at value : ℕ) → has_page (voice_pages_from s memory v voices) (page_of at) ≡ false
    → voice_pages_from s (with_byte memory at value) v voices ≡ voice_pages_from s memory v voices
pages_stay s memory v voices at value none = pages_from_same s memory (with_byte memory at value) v voices (agree_put (voice_pages_from s memory v voices) memory at value none)

-- the reach of the same pages
reach_of_pages : (memory m : List ℕ) (starts others : List ChainStart) (entries : List ℕ) (window : Window) (writes_on : Bool)
    → voice_pages m others entries ≡ voice_pages memory starts entries → reach m others entries window writes_on ≡ reach memory starts entries window writes_on
unfolding reach
reach_of_pages memory m starts others entries window writes_on same =
    ap (λ (voices : List ℕ). record {
      read_pages = set.from_list (voices ++ window_pages window);
      write_pages = if writes_on then set.from_list (window_pages window) else set.empty;
      entangled = writes_on && have_common_page (set.from_list voices) (set.from_list (window_pages window));
    }) same

-- the reach stays
pub reach_stays : (s : ChipState) (memory : List ℕ) (at value : ℕ) → set.contains (chip_reach s memory).read_pages (page_of at) ≡ false
    → chip_reach s (with_byte memory at value) ≡ chip_reach s memory
unfolding chip_reach
reach_stays s memory at value none =
    reach_of_pages memory (with_byte memory at value) (starts_from s memory 0 s.hidden.voices) (starts_from s (with_byte memory at value) 0 s.hidden.voices) (entries_from s.registers 0 s.hidden.voices)
    (chip_window s) (has_echo_writes (slice_index s.registers FLG)) (pages_stay s memory 0 s.hidden.voices at value (unread_by_voices s memory (page_of at) none))
