-- What a voice on its chains reads lies on the pages of its entry of the directory and of its chains.
use Rattle.std.proofs.Common.{◌≡◌, ◌≢◌, ℕ, zero, suc, ◌+◌, ◌*◌, ◌/◌, ◌%◌, ◌<◌, ◌≤◌, List, [], ◌∷◌, ◌++◌, length, flat_map, get_or, true, false, ◌==◌, eq-eqb, if◌then◌else◌, ap, sym, ◌∙◌, arith}
use Rattle.std.specs.List.{range_with_len}
use Rattle.std.proofs.lemmas.Bool.{true≢false}
use Rattle.std.proofs.lemmas.List.Folds.{list_any_at}
use Rattle.std.proofs.lemmas.List.FromFn.{get_or-range_with_len, length-map-range_with_len}
use Rattle.std.proofs.Math.ListN.{get_or-map}
use Rattle.aram_core.specs.Memory.{byte_at, with_byte}
use Rattle.aram_core.specs.Pages.{page_of, has_page}
use Rattle.aram_core.proofs.Bytes.{byte_at-with_byte_other}
use Rattle.voice_unit.specs.Voice.{VoiceState}
use Rattle.reach_map.specs.declared.ChainStart.{ChainStart}
use Rattle.reach_map.specs.Reach.{pages_of_bytes, chain, chain_entry, block_pages, chain_pages, entry_pages, voice_pages}
use Rattle.dsp_state.specs.declared.state.ChipState.{ChipState}
use Rattle.dsp_state.specs.Reach.{voice_entry, can_start, own_chain, start_chain, voice_starts}
use Rattle.reach_map.proofs.ChainEntries.{rest_of, chain_entry-zero, chain_entry-rest}
use Rattle.reach_laws.proofs.PageSets.{at_page, in_left, in_right}
use Rattle.reach_laws.proofs.Same.{AreSameFor}

-- the pages of bytes have the page of each of them
pub bytes_have : (start count k : ℕ) → k < count → has_page (pages_of_bytes start count) (page_of (start + k)) ≡ true
bytes_have start count k few =
    let pages : List ℕ = pages_of_bytes start count in
    let within : k < length pages = omega (arith, few, length-map-range_with_len (λ (i : ℕ). page_of (start + i)) 0 count) in
    let place : get_or (range_with_len 0 count) k 0 ≡ k = get_or-range_with_len 0 count k 0 few ∙ omega arith in
    let read : get_or pages k (page_of (start + 0)) ≡ page_of (start + k) =
    get_or-map (λ (i : ℕ). page_of (start + i)) (range_with_len 0 count) k 0 ∙ ap (λ (i : ℕ). page_of (start + i)) place in
    list_any_at (λ q. q == page_of (start + k)) pages k (page_of (start + 0)) within (eq-eqb _ _ read)

-- the pages of the first n blocks have those of the 9 bytes of each
blocks_have : (memory : List ℕ) (start : ChainStart) (n i k : ℕ) → i < n → k < 9
    → has_page (flat_map block_pages (chain memory start.loop_word n start.block)) (page_of (chain_entry memory start i + k)) ≡ true
blocks_have memory start zero i k below few = absurd (omega arith)
blocks_have memory start (suc n) zero k below few =
    let rest : ChainStart = rest_of memory start in
    at_page (block_pages start.block ++ flat_map block_pages (chain memory rest.loop_word n rest.block)) (page_of (start.block + k)) _ (ap (λ (b : ℕ). page_of (b + k)) (sym (chain_entry-zero memory start)))
    (in_left (block_pages start.block) (flat_map block_pages (chain memory rest.loop_word n rest.block)) _ (bytes_have start.block 9 k few))
blocks_have memory start (suc n) (suc i) k below few =
    let rest : ChainStart = rest_of memory start in
    at_page (block_pages start.block ++ flat_map block_pages (chain memory rest.loop_word n rest.block)) (page_of (chain_entry memory rest i + k)) _ (ap (λ (b : ℕ). page_of (b + k)) (sym (chain_entry-rest memory start i)))
    (in_right (block_pages start.block) (flat_map block_pages (chain memory rest.loop_word n rest.block)) _ (blocks_have memory rest n i k (omega arith) few))

-- so the pages of a chain have those of its first blocks
chain_has : (memory : List ℕ) (start : ChainStart) (j i k : ℕ) → j ≤ 64 → 4 * i ≤ j + 3 → k < 9 → has_page (chain_pages memory start) (page_of (chain_entry memory start i + k)) ≡ true
chain_has memory start j i k few pace small = blocks_have memory start 18 i k (omega (arith, few, pace)) small

-- the pages that voice v reads
abbrev pub own_pages : ChipState → List ℕ → (v : ℕ) → VoiceState → List ℕ
own_pages s memory v old = voice_pages memory (voice_starts s memory v old) (voice_entry s.registers v ∷ [])

pub entry_in : (s : ChipState) (memory : List ℕ) (v : ℕ) (old : VoiceState) (k : ℕ) → k < 4 → has_page (own_pages s memory v old) (page_of (voice_entry s.registers v + k)) ≡ true
entry_in s memory v old k few =
    in_left (entry_pages (voice_entry s.registers v) ++ []) (flat_map (chain_pages memory) (voice_starts s memory v old)) _ (in_left (entry_pages (voice_entry s.registers v)) [] _ (bytes_have (voice_entry s.registers v) 4 k few))

own_chain_in : (s : ChipState) (memory : List ℕ) (v : ℕ) (old : VoiceState) (p : ℕ) → has_page (chain_pages memory (own_chain s memory v old)) p ≡ true → has_page (own_pages s memory v old) p ≡ true
own_chain_in s memory v old p h =
    in_right (entry_pages (voice_entry s.registers v) ++ []) (flat_map (chain_pages memory) (voice_starts s memory v old)) p
    (in_left (chain_pages memory (own_chain s memory v old)) (flat_map (chain_pages memory) (if can_start s v old then start_chain s memory v ∷ [] else [])) p h)

start_chain_in : (s : ChipState) (memory : List ℕ) (v : ℕ) (old : VoiceState) (p : ℕ) → can_start s v old ≡ true → has_page (chain_pages memory (start_chain s memory v)) p ≡ true
    → has_page (own_pages s memory v old) p ≡ true
start_chain_in s memory v old p starts h =
    in_right (entry_pages (voice_entry s.registers v) ++ []) (flat_map (chain_pages memory) (voice_starts s memory v old)) p
    (in_right (chain_pages memory (own_chain s memory v old)) (flat_map (chain_pages memory) (if can_start s v old then start_chain s memory v ∷ [] else [])) p
    (rw starts (in_left (chain_pages memory (start_chain s memory v)) [] p h)))

-- two memories that have the same bytes on some pages
abbrev pub AgreeOn : (pages m n : List ℕ) → Type 0
AgreeOn pages m n = (at : ℕ) → has_page pages (page_of at) ≡ true → byte_at m at ≡ byte_at n at

-- a byte that is put elsewhere leaves them alone
pub agree_put : (pages memory : List ℕ) (at value : ℕ) → has_page pages (page_of at) ≡ false → AgreeOn pages (with_byte memory at value) memory
agree_put pages memory at value none a some =
    let apart : a % 0x10000 ≢ at % 0x10000 = λ e. true≢false (sym some ∙ ap (λ (x : ℕ). has_page pages (x / 256)) e ∙ none) in
    byte_at-with_byte_other memory at a value apart

-- memories that agree on its pages have the same bytes where a voice can look
pub same_for : (s : ChipState) (memory : List ℕ) (j v : ℕ) (old : VoiceState) (m n : List ℕ) → j ≤ 64 → AgreeOn (own_pages s memory v old) m n → AreSameFor s memory j v old m n
same_for s memory j v old m n few same = record {
  entry = λ k small. same (voice_entry s.registers v + k) (entry_in s memory v old k small);
  own = λ i k pace small. same (chain_entry memory (own_chain s memory v old) i + k) (own_chain_in s memory v old _ (chain_has memory (own_chain s memory v old) j i k few pace small));
  start = λ starts i k pace small. same (chain_entry memory (start_chain s memory v) i + k) (start_chain_in s memory v old _ starts (chain_has memory (start_chain s memory v) j i k few pace small));
}
