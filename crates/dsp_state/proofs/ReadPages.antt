-- What voices read, page by page: that of one voice after another, and of a voice by its entry and its chains.
use Rattle.std.proofs.Common.{◌≡◌, ℕ, ◌+◌, List, [], ◌∷◌, ◌++◌, flat_map, Bool, true, false, ◌&&◌, ◌||◌, ◌==◌, slice_index, if◌then◌else◌, refl, sym, ap, ◌∙◌}
use Rattle.std.specs.FinSet as set
use Rattle.std.specs.Ordering.{nat_cmp}
use Rattle.std.proofs.lemmas.Grind.{flat_map-append}
use Rattle.std.proofs.lemmas.List.Folds.{list_any-append}
use Rattle.std.proofs.lemmas.Bool.{true≢false}
use Rattle.std.proofs.Math.Bool.{or_comm, or-false}
use Rattle.aram_core.specs.Pages.{has_page}
use Rattle.voice_unit.specs.Voice.{VoiceState}
use Rattle.reach_map.specs.Reach.{chain_pages, entry_pages, voice_pages, window_pages, reach}
use Rattle.echo_unit.specs.Flg.{has_echo_writes}
use Rattle.dsp_state.specs.Reach.{voice_entry, can_start, own_chain, start_chain, voice_starts, starts_from, entries_from, voice_reads, voices_read, chip_window, chip_reach}
use Rattle.dsp_state.specs.declared.registers.TheConstants.{FLG}
use Rattle.dsp_state.specs.declared.state.ChipState.{ChipState}

-- a page of two lists one after the other
either : (xs ys : List ℕ) (page : ℕ) → has_page (xs ++ ys) page ≡ (has_page xs page || has_page ys page)
either xs ys page = list_any-append (λ q. q == page) xs ys

-- of one entry, a chain, and one more where there is one
parts : {X Y : Type 0} (f : X → List ℕ) (g : Y → List ℕ) (x : X) (own start : Y) (can : Bool) (page : ℕ)
    → has_page (flat_map f (x ∷ []) ++ flat_map g (own ∷ (if can then start ∷ [] else []))) page
    ≡ (has_page (f x) page || (has_page (g own) page || (can && has_page (g start) page)))
parts f g x own start can page =
    either (f x ++ []) (flat_map g (own ∷ (if can then start ∷ [] else []))) page
    ∙ (λ i. (either (f x) [] page ∙ or-false (has_page (f x) page)) i || (either (g own) (flat_map g (if can then start ∷ [] else [])) page ∙ ap (λ b. has_page (g own) page || b) (more can)) i)
  where
    more : (b : Bool) → has_page (flat_map g (if b then start ∷ [] else [])) page ≡ (b && has_page (g start) page)
    more true = either (g start) [] page ∙ or-false (has_page (g start) page)
    more false = refl

shuffle : (a b c d : Bool) → ((a || b) || (c || d)) ≡ (((a || false) || c) || (b || d))
shuffle true b c d = refl
shuffle false true true d = refl
shuffle false true false d = refl
shuffle false false c d = refl

-- of entries and chains, those of the first voice and those of the others
one_more : {X Y : Type 0} (f : X → List ℕ) (g : Y → List ℕ) (x : X) (xs : List X) (ys others : List Y) (page : ℕ)
    → has_page (flat_map f (x ∷ xs) ++ flat_map g (ys ++ others)) page
    ≡ (has_page (flat_map f (x ∷ []) ++ flat_map g ys) page || has_page (flat_map f xs ++ flat_map g others) page)
one_more f g x xs ys others page =
    either (f x ++ flat_map f xs) (flat_map g (ys ++ others)) page
    ∙ (λ i. either (f x) (flat_map f xs) page i || (ap (λ pages. has_page pages page) (flat_map-append g ys others) ∙ either (flat_map g ys) (flat_map g others) page) i)
    ∙ shuffle (has_page (f x) page) (has_page (flat_map f xs) page) (has_page (flat_map g ys) page) (has_page (flat_map g others) page)
    ∙ (λ i. (sym (either (f x ++ []) (flat_map g ys) page ∙ ap (λ b. b || has_page (flat_map g ys) page) (either (f x) [] page))) i || sym (either (flat_map f xs) (flat_map g others) page) i)

pub voice_reads-parts : (s : ChipState) (memory : List ℕ) (v : ℕ) (voice : VoiceState) (page : ℕ)
    → voice_reads s memory v voice page
    ≡ (has_page (entry_pages (voice_entry s.registers v)) page
    || (has_page (chain_pages memory (own_chain s memory v voice)) page || (can_start s v voice && has_page (chain_pages memory (start_chain s memory v)) page)))
unfolding voice_reads
voice_reads-parts s memory v voice page =
    parts entry_pages (chain_pages memory) (voice_entry s.registers v) (own_chain s memory v voice) (start_chain s memory v) (can_start s v voice) page

by_first : (a b c d : Bool) → true ≡ a → true ≡ (a || (b || (c && d)))
by_first true b c d one = refl
by_first false b c d one = absurd (true≢false one)

by_second : (a b c d : Bool) → false ≡ a → true ≡ b → true ≡ (a || (b || (c && d)))
by_second true b c d one two = refl
by_second false true c d one two = refl
by_second false false c d one two = absurd (true≢false two)

by_none : (a b c d : Bool) → false ≡ a → false ≡ b → false ≡ c → false ≡ (a || (b || (c && d)))
by_none true b c d one two three = one
by_none false true c d one two three = two
by_none false false true d one two three = absurd (true≢false (sym three))
by_none false false false d one two three = refl

by_last : (test a b c d : Bool) → false ≡ a → false ≡ b → true ≡ c → test ≡ d → test ≡ (a || (b || (c && d)))
by_last test true b c d one two three four = absurd (true≢false (sym one))
by_last test false true c d one two three four = absurd (true≢false (sym two))
by_last test false false true d one two three four = four
by_last test false false false d one two three four = absurd (true≢false three)

-- the parts of a voice asked one after another
module _ (s : ChipState) (memory : List ℕ) (v : ℕ) (voice : VoiceState) (page : ℕ) where
  pub reads_by_entry : true ≡ has_page (entry_pages (voice_entry s.registers v)) page → true ≡ voice_reads s memory v voice page
  reads_by_entry entry = by_first (has_page (entry_pages (voice_entry s.registers v)) page) (has_page (chain_pages memory (own_chain s memory v voice)) page) (can_start s v voice) (has_page (chain_pages memory (start_chain s memory v)) page) entry ∙ sym (voice_reads-parts s memory v voice page)

  pub reads_by_own_chain : false ≡ has_page (entry_pages (voice_entry s.registers v)) page
      → true ≡ has_page (chain_pages memory (own_chain s memory v voice)) page → true ≡ voice_reads s memory v voice page
  reads_by_own_chain entry own = by_second (has_page (entry_pages (voice_entry s.registers v)) page) (has_page (chain_pages memory (own_chain s memory v voice)) page) (can_start s v voice) (has_page (chain_pages memory (start_chain s memory v)) page) entry own ∙ sym (voice_reads-parts s memory v voice page)

  pub reads_by_none : false ≡ has_page (entry_pages (voice_entry s.registers v)) page
      → false ≡ has_page (chain_pages memory (own_chain s memory v voice)) page → false ≡ can_start s v voice → false ≡ voice_reads s memory v voice page
  reads_by_none entry own start = by_none (has_page (entry_pages (voice_entry s.registers v)) page) (has_page (chain_pages memory (own_chain s memory v voice)) page) (can_start s v voice) (has_page (chain_pages memory (start_chain s memory v)) page) entry own start ∙ sym (voice_reads-parts s memory v voice page)

  pub reads_by_start_chain : (test : Bool) → false ≡ has_page (entry_pages (voice_entry s.registers v)) page
      → false ≡ has_page (chain_pages memory (own_chain s memory v voice)) page → true ≡ can_start s v voice
      → test ≡ has_page (chain_pages memory (start_chain s memory v)) page → test ≡ voice_reads s memory v voice page
  reads_by_start_chain test entry own can start = by_last test (has_page (entry_pages (voice_entry s.registers v)) page) (has_page (chain_pages memory (own_chain s memory v voice)) page) (can_start s v voice) (has_page (chain_pages memory (start_chain s memory v)) page) entry own can start ∙ sym (voice_reads-parts s memory v voice page)

pub voices_read-more : (s : ChipState) (memory : List ℕ) (v : ℕ) (voice : VoiceState) (voices : List VoiceState) (page : ℕ)
    → voices_read s memory v (voice ∷ voices) page ≡ (voice_reads s memory v voice page || voices_read s memory (v + 1) voices page)
unfolding voice_reads voices_read
voices_read-more s memory v voice voices page =
    one_more entry_pages (chain_pages memory) (voice_entry s.registers v) (entries_from s.registers (v + 1) voices) (voice_starts s memory v voice) (starts_from s memory (v + 1) voices) page

pub voices_read-none : (s : ChipState) (memory : List ℕ) (v page : ℕ) → voices_read s memory v [] page ≡ false
unfolding voices_read
voices_read-none s memory v page = refl

-- the read pages and the write pages of a reach
pub read_page : (s : ChipState) (memory : List ℕ) (page : ℕ)
    → set.contains (chip_reach s memory).read_pages page ≡ (has_page (window_pages (chip_window s)) page || voices_read s memory 0 s.hidden.voices page)
unfolding chip_reach reach voices_read
read_page s memory page =
    let voices : List ℕ = voice_pages memory (starts_from s memory 0 s.hidden.voices) (entries_from s.registers 0 s.hidden.voices) in
    let echo : List ℕ = window_pages (chip_window s) in
    set.contains-from_list_nat (voices ++ echo) page ∙ either voices echo page ∙ or_comm (has_page voices page) (has_page echo page)

pub write_page : (s : ChipState) (memory : List ℕ) (page : ℕ)
    → set.contains (chip_reach s memory).write_pages page ≡ (has_echo_writes (slice_index s.registers FLG) && has_page (window_pages (chip_window s)) page)
unfolding chip_reach reach
write_page s memory page = by (has_echo_writes (slice_index s.registers FLG))
  where
    by : (b : Bool) → set.contains {R = nat_cmp} (if b then set.from_list (window_pages (chip_window s)) else set.empty) page ≡ (b && has_page (window_pages (chip_window s)) page)
    by true = set.contains-from_list_nat (window_pages (chip_window s)) page
    by false = set.contains-empty nat_cmp page
