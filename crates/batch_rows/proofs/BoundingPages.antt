-- The blocks of a chain lie within the 162 bytes from its start on and the 162 bytes from its loop word on.
use Rattle.std.proofs.Common.{◌≡◌, ◌≢◌, ℕ, zero, suc, ◌+◌, ◌-◌, ◌*◌, ◌/◌, ◌%◌, ◌<◌, ◌≤◌, List, [], ◌∷◌, ◌++◌, map, flat_map, Bool, true, false, ◌&&◌, slice_index, if◌then◌else◌, ◌⊎◌, inl, inr, refl, ap, sym, ◌∙◌, arith}
use Rattle.std.specs.List.{range_with_len}
use Rattle.std.specs.Ordering.{nat_cmp}
use Rattle.std.specs.Cmp.{nat_cmp_total}
use Rattle.std.specs.FinSet as set
use Rattle.std.specs.FinMap.{nat_cmp-IsAntisymmetric}
use Rattle.std.proofs.lemmas.Bool.{and_right}
use Rattle.std.proofs.lemmas.Grind.{flat_map-append}
use Rattle.std.proofs.lemmas.Bool.Decides.{nat_tests}
use Rattle.aram_core.specs.Memory.{byte_at}
use Rattle.aram_core.specs.Pages.{page_of, has_page, have_common_page}
use Rattle.brr_decode.specs.Header.{next_block, has_end}
use Rattle.voice_unit.specs.Voice.{VoiceState}
use Rattle.reach_map.specs.declared.ChainStart.{ChainStart}
use Rattle.reach_map.specs.Reach.{pages_of_bytes, chain, block_pages, chain_pages, entry_pages, voice_pages, window_pages, reach}
use Rattle.echo_unit.specs.Flg.{has_echo_writes}
use Rattle.dsp_state.specs.Reach.{voice_entry, can_start, own_chain, start_chain, voice_starts, entries_from, starts_from, chip_window, chip_reach}
use Rattle.dsp_state.specs.declared.registers.TheConstants.{FLG}
use Rattle.dsp_state.specs.declared.state.ChipState.{ChipState}
use Rattle.reach_map.proofs.EveryPage.{has_none}
use Rattle.reach_map.proofs.PageOfBytes.{fewer_bytes}
use Rattle.reach_laws.proofs.PageSets.{contains-pages, apart_right, at_page, in_left, in_right, in_either}
use Rattle.reach_laws.proofs.ChainPages.{bytes_have}
use Rattle.batch_rows.specs.BoundingPages.{bounding_pages, bounding_voice_pages, bounding_pages_of_chip, window_from, AreApart, IsVoiceApart}

none_has : (p : ℕ) → has_page [] p ≡ true → ⊥
none_has p h = cc

one_has : (q p : ℕ) → has_page (q ∷ []) p ≡ true → q ≡ p
one_has q p h = grind (arith, nat_tests)

-- a list has a page, where it has each of those of a list that has it
has_all : (target : List ℕ) (f : ℕ → ℕ) (i n p : ℕ) → has_page (map f (range_with_len i n)) p ≡ true
    → ((k : ℕ) → i ≤ k → k < i + n → has_page target (f k) ≡ true) → has_page target p ≡ true
has_all target f i zero p h all = absurd (none_has p h)
has_all target f i (suc n) p h all = elim (in_either (f i ∷ []) (map f (range_with_len (i + 1) n)) p h) [
  | inl here ↦ at_page target (f i) p (one_has (f i) p here) (all i (omega arith) (omega arith))
  | inr rest ↦ has_all target f (i + 1) n p rest (λ k above below. all k (omega (arith, above)) (omega (arith, below)))
]

-- more bytes from the same start on
longer : (start few many p : ℕ) → few ≤ many → has_page (pages_of_bytes start few) p ≡ true → has_page (pages_of_bytes start many) p ≡ true
longer start few many p more h =
    has_all (pages_of_bytes start many) (λ i. page_of (start + i)) 0 few p h (λ k above below. bytes_have start many k (omega (arith, below, more)))

-- the bytes of a block, and those that follow it
further : (block count p : ℕ) → has_page (pages_of_bytes ((block + 9) % 0x10000) (9 * count)) p ≡ true → has_page (pages_of_bytes block (9 * suc count)) p ≡ true
further block count p h =
    has_all (pages_of_bytes block (9 * suc count)) (λ i. page_of ((block + 9) % 0x10000 + i)) 0 (9 * count) p h
    (λ k above below.
    let same : page_of (block + (9 + k)) ≡ page_of ((block + 9) % 0x10000 + k) = omega arith in
    at_page (pages_of_bytes block (9 * suc count)) _ _ same (bytes_have block (9 * suc count) (9 + k) (omega (arith, below))))

near : (memory : List ℕ) (loop_word count block p : ℕ) → has_page (flat_map block_pages (chain memory loop_word count block)) p ≡ true
    → (has_page (pages_of_bytes block (9 * count)) p ≡ true) ⊎ (has_page (pages_of_bytes loop_word (9 * count)) p ≡ true)
near memory loop_word zero block p h = absurd (none_has p h)
near memory loop_word (suc count) block p h =
    elim (in_either (block_pages block) (flat_map block_pages (chain memory loop_word count (next_block (byte_at memory block) block loop_word))) p h) [
      | inl here ↦ inl (longer block 9 (9 * suc count) p (omega arith) here)
      | inr rest ↦ by (has_end (byte_at memory block)) (near memory loop_word count (next_block (byte_at memory block) block loop_word) p rest)
    ]
  where
    by : (b : Bool)
        → (has_page (pages_of_bytes (if b then loop_word else (block + 9) % 0x10000) (9 * count)) p ≡ true) ⊎ (has_page (pages_of_bytes loop_word (9 * count)) p ≡ true)
        → (has_page (pages_of_bytes block (9 * suc count)) p ≡ true) ⊎ (has_page (pages_of_bytes loop_word (9 * suc count)) p ≡ true)
    by true (inl at) = inr (longer loop_word (9 * count) (9 * suc count) p (omega arith) at)
    by true (inr at) = inr (longer loop_word (9 * count) (9 * suc count) p (omega arith) at)
    by false (inl at) = inl (further block count p at)
    by false (inr at) = inr (longer loop_word (9 * count) (9 * suc count) p (omega arith) at)

chain_is_near : (memory : List ℕ) (start : ChainStart) (p : ℕ) → has_page (chain_pages memory start) p ≡ true → has_page (bounding_pages start) p ≡ true
chain_is_near memory start p h = elim (near memory start.loop_word 18 start.block p h) [
  | inl at ↦ in_left (pages_of_bytes start.block 162) (pages_of_bytes start.loop_word 162) p at
  | inr at ↦ in_right (pages_of_bytes start.block 162) (pages_of_bytes start.loop_word 162) p at
]

-- the same of several chains
chains_are_near : (memory : List ℕ) (starts : List ChainStart) (p : ℕ) → has_page (flat_map (chain_pages memory) starts) p ≡ true → has_page (flat_map bounding_pages starts) p ≡ true
chains_are_near memory [] p h = absurd (none_has p h)
chains_are_near memory (start ∷ starts) p h = elim (in_either (chain_pages memory start) (flat_map (chain_pages memory) starts) p h) [
  | inl here ↦ in_left (bounding_pages start) (flat_map bounding_pages starts) p (chain_is_near memory start p here)
  | inr rest ↦ in_right (bounding_pages start) (flat_map bounding_pages starts) p (chains_are_near memory starts p rest)
]

-- and of what voices read
voices_are_near : (memory : List ℕ) (starts : List ChainStart) (entries : List ℕ) (p : ℕ) → has_page (voice_pages memory starts entries) p ≡ true
    → has_page (bounding_voice_pages starts entries) p ≡ true
voices_are_near memory starts entries p h = elim (in_either (flat_map entry_pages entries) (flat_map (chain_pages memory) starts) p h) [
  | inl entry ↦ in_left (flat_map entry_pages entries) (flat_map bounding_pages starts) p entry
  | inr chains ↦ in_right (flat_map entry_pages entries) (flat_map bounding_pages starts) p (chains_are_near memory starts p chains)
]

-- lists with no page in common
none_common : (these those : List ℕ) → ((q : ℕ) → has_page these q ≡ true → has_page those q ≡ false) → have_common_page (set.from_list these) (set.from_list those) ≡ false
none_common these those apart =
    let none : set.intersection (set.from_list {R = nat_cmp} these) (set.from_list those) ≡ set.empty =
    set.same_set nat_cmp_total nat_cmp-IsAntisymmetric _ _
    (λ q. set.contains-intersection nat_cmp_total (set.from_list these) (set.from_list those) q
    ∙ (λ i. contains-pages these q i && contains-pages those q i) ∙ neither (has_page these q) (has_page those q) (apart q) ∙ sym (set.contains-empty nat_cmp q)) in
    let zero_long : set.len (set.intersection (set.from_list {R = nat_cmp} these) (set.from_list those)) ≡ 0 = ap set.len none ∙ set.len-empty nat_cmp in
    rw zero_long refl
  where
    neither : (a b : Bool) → (a ≡ true → b ≡ false) → (a && b) ≡ false
    neither true b h = h refl
    neither false b h = refl

-- where the echo's window has no page of the conservative bounds of what voices can read, the reach isn't entangled
pub bounds_apart : (s : ChipState) (memory : List ℕ)
    → have_common_page (set.from_list (bounding_pages_of_chip s memory)) (set.from_list (window_pages (chip_window s))) ≡ false
    → (chip_reach s memory).entangled ≡ false
unfolding chip_reach reach
bounds_apart s memory apart =
    let starts : List ChainStart = starts_from s memory 0 s.hidden.voices in
    let entries : List ℕ = entries_from s.registers 0 s.hidden.voices in
    let window : List ℕ = window_pages (chip_window s) in
    let none : have_common_page (set.from_list (voice_pages memory starts entries)) (set.from_list window) ≡ false =
    none_common (voice_pages memory starts entries) window (λ q here. apart_right (bounding_voice_pages starts entries) window q apart (voices_are_near memory starts entries q here)) in
    rw none (and_right (has_echo_writes (slice_index s.registers FLG)) false refl)

-- of a list that has a page, some entry is it
found : {C : Type 0} (f : ℕ → ℕ) (i n p : ℕ) → has_page (map f (range_with_len i n)) p ≡ true → ((k : ℕ) → i ≤ k → k < i + n → f k ≡ p → C) → C
found f i zero p h use_it = absurd (none_has p h)
found f i (suc n) p h use_it = elim (in_either (f i ∷ []) (map f (range_with_len (i + 1) n)) p h) [
  | inl here ↦ use_it i (omega arith) (omega arith) (one_has (f i) p here)
  | inr rest ↦ found f (i + 1) n p rest (λ k above below same. use_it k (omega (arith, above)) (omega (arith, below)) same)
]

-- a byte so far from the first of a window's pages is on none of them
pages_differ : (esa len far i : ℕ) → esa < 0x100 → far < 0x10000 → len % 0x100 ≡ 0 → len ≤ far → i < len → page_of (esa * 0x100 + far) ≢ page_of (esa * 0x100 + i)
pages_differ esa len far i small small' whole beyond within same = omega (arith, same, small, small', whole, beyond, within)

-- A few bytes have no page of a window of whole pages, where their last is further from its start than both are long.
pub bytes_apart : (start count esa len way : ℕ) → esa < 0x100 → way < 0x10000 → (way + esa * 0x100) % 0x10000 ≡ (start + (count - 1)) % 0x10000 → 1 ≤ count → len % 0x100 ≡ 0
    → len + (count - 1) ≤ way → AreApart (pages_of_bytes start count) (window_from esa len)
bytes_apart start count esa len way small small' is some whole far page here =
    found (λ i. page_of (start + i)) 0 count page here (λ k above below same.
    let from : ℕ = way - (count - 1 - k) in
    let beyond : len ≤ from = omega (arith, far, below, some) in
    let near_by : from < 0x10000 = omega (arith, small') in
    let byte : page_of (start + k) ≡ page_of (esa * 0x100 + from) = ap (λ (x : ℕ). x / 256) (same_byte start count esa way k is some below far) in
    has_none (λ i. page_of (esa * 0x100 + i)) page 0 len (λ i first within there.
    pages_differ esa len from i small near_by whole beyond (omega (arith, within)) (sym byte ∙ same ∙ there)))
  where
    same_byte : (start count esa way k : ℕ) → (way + esa * 0x100) % 0x10000 ≡ (start + (count - 1)) % 0x10000 → 1 ≤ count → k < 0 + count → len + (count - 1) ≤ way
        → (start + k) % 0x10000 ≡ (esa * 0x100 + (way - (count - 1 - k))) % 0x10000
    same_byte start count esa way k is some below far = omega (arith, is, some, below, far)

-- and none of a shorter window's
pub shorter : (these : List ℕ) (esa less len : ℕ) → less ≤ len → AreApart these (window_from esa len) → AreApart these (window_from esa less)
shorter these esa less len fits apart page here = fewer_bytes (esa * 0x100) less len page fits (apart page here)

pub none_apart : (those : List ℕ) → AreApart [] those
none_apart those page h = absurd (none_has page h)

pub both_apart : (these more those : List ℕ) → AreApart these those → AreApart more those → AreApart (these ++ more) those
both_apart these more those apart apart' page h = elim (in_either these more page h) [ inl here ↦ apart page here | inr there ↦ apart' page there ]

-- one voice, by its entry, its own chain, and that of its start where it can go there
pub voice_apart : (s : ChipState) (memory : List ℕ) (v : ℕ) (voice : VoiceState) (esa len : ℕ) (starts : Bool) → starts ≡ can_start s v voice
    → AreApart (entry_pages (voice_entry s.registers v)) (window_from esa len) → AreApart (bounding_pages (own_chain s memory v voice)) (window_from esa len)
    → (starts ≡ true → AreApart (bounding_pages (start_chain s memory v)) (window_from esa len)) → IsVoiceApart s memory v voice esa len
unfolding IsVoiceApart
voice_apart s memory v voice esa len starts is entry own start =
    both_apart (entry_pages (voice_entry s.registers v)) (flat_map bounding_pages (voice_starts s memory v voice)) (window_from esa len) entry
    (both_apart (bounding_pages (own_chain s memory v voice)) (flat_map bounding_pages (if can_start s v voice then start_chain s memory v ∷ [] else [])) (window_from esa len) own (by (can_start s v voice) is))
  where
    by : (b : Bool) → starts ≡ b → AreApart (flat_map bounding_pages (if b then start_chain s memory v ∷ [] else [])) (window_from esa len)
    by true e = both_apart (bounding_pages (start_chain s memory v)) [] (window_from esa len) (start e) (none_apart (window_from esa len))
    by false e = none_apart (window_from esa len)

-- one voice more
pub voices_apart : (s : ChipState) (memory : List ℕ) (v : ℕ) (voice : VoiceState) (rest : List VoiceState) (esa len : ℕ) → IsVoiceApart s memory v voice esa len
    → AreApart (bounding_voice_pages (starts_from s memory (v + 1) rest) (entries_from s.registers (v + 1) rest)) (window_from esa len)
    → AreApart (bounding_voice_pages (starts_from s memory v (voice ∷ rest)) (entries_from s.registers v (voice ∷ rest))) (window_from esa len)
unfolding IsVoiceApart
voices_apart s memory v voice rest esa len this others page h =
    let entry : List ℕ = entry_pages (voice_entry s.registers v) in
    let entries : List ℕ = flat_map entry_pages (entries_from s.registers (v + 1) rest) in
    let starts : List ℕ = flat_map bounding_pages (voice_starts s memory v voice) in
    let others_starts : List ℕ = flat_map bounding_pages (starts_from s memory (v + 1) rest) in
    let parts : flat_map bounding_pages (voice_starts s memory v voice ++ starts_from s memory (v + 1) rest) ≡ starts ++ others_starts =
    flat_map-append bounding_pages (voice_starts s memory v voice) (starts_from s memory (v + 1) rest) in
    let here : has_page ((entry ++ entries) ++ (starts ++ others_starts)) page ≡ true = rw parts at h in
    elim (in_either (entry ++ entries) (starts ++ others_starts) page here) [
      | inl a ↦ elim (in_either entry entries page a) [
        | inl b ↦ this page (in_left entry starts page b)
        | inr b ↦ others page (in_left entries others_starts page b)
      ]
      | inr a ↦ elim (in_either starts others_starts page a) [
        | inl b ↦ this page (in_right entry starts page b)
        | inr b ↦ others page (in_right entries others_starts page b)
      ]
    ]

pub apart_by_bounds : (s : ChipState) (memory : List ℕ)
    → AreApart (bounding_pages_of_chip s memory) (window_pages (chip_window s))
    → (chip_reach s memory).entangled ≡ false
apart_by_bounds s memory apart = bounds_apart s memory (none_common _ _ apart)

-- where echo writes are off it isn't either
pub still_apart : (s : ChipState) (memory : List ℕ) → has_echo_writes (slice_index s.registers FLG) ≡ false → (chip_reach s memory).entangled ≡ false
unfolding chip_reach reach
still_apart s memory off = rw off refl
