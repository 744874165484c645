-- What the reach of a chip says of the pages of its voices and of those of its echo's window.
use Rattle.std.proofs.Common.{◌≡◌, ℕ, ◌++◌, ◌&&◌, List, Bool, true, false, if◌then◌else◌, slice_index, sym, ◌∙◌}
use Rattle.std.specs.FinSet as set
use Rattle.std.specs.Ordering.{nat_cmp}
use Rattle.aram_core.specs.Pages.{has_page, have_common_page}
use Rattle.reach_map.specs.Reach.{reach, window_pages}
use Rattle.echo_unit.specs.Flg.{has_echo_writes}
use Rattle.dsp_state.specs.Reach.{chip_reach, chip_window}
use Rattle.dsp_state.specs.declared.registers.TheConstants.{FLG}
use Rattle.dsp_state.specs.declared.state.ChipState.{ChipState}
use Rattle.reach_laws.proofs.PageSets.{contains-pages, apart_right, not_in_left, not_in_right}
use Rattle.reach_laws.proofs.Voices.{voice_pages_from}

-- the pages that the voices read, and those of the window
abbrev pub pages_of_voices : ChipState → List ℕ → List ℕ
pages_of_voices s memory = voice_pages_from s memory 0 s.hidden.voices

abbrev pub pages_of_echo : ChipState → List ℕ
pages_of_echo s = window_pages (chip_window s)

abbrev pub writes_echo : ChipState → Bool
writes_echo s = has_echo_writes (slice_index s.registers FLG)

-- a page that is no read page is no page of the voices, nor one of the window
pub unread_by_voices : (s : ChipState) (memory : List ℕ) (p : ℕ) → set.contains (chip_reach s memory).read_pages p ≡ false → has_page (pages_of_voices s memory) p ≡ false
unfolding chip_reach reach
unread_by_voices s memory p none =
    let voices : List ℕ = pages_of_voices s memory in
    let echo : List ℕ = pages_of_echo s in
    not_in_left voices echo p (sym (contains-pages (voices ++ echo) p) ∙ none)

pub unread_by_echo : (s : ChipState) (memory : List ℕ) (p : ℕ) → set.contains (chip_reach s memory).read_pages p ≡ false → has_page (pages_of_echo s) p ≡ false
unfolding chip_reach reach
unread_by_echo s memory p none =
    let voices : List ℕ = pages_of_voices s memory in
    let echo : List ℕ = pages_of_echo s in
    not_in_right voices echo p (sym (contains-pages (voices ++ echo) p) ∙ none)

-- where the echo writes, a page that is no write page is none of the window
pub unwritten_by_echo : (s : ChipState) (memory : List ℕ) (p : ℕ) → writes_echo s ≡ true → set.contains (chip_reach s memory).write_pages p ≡ false → has_page (pages_of_echo s) p ≡ false
unfolding chip_reach reach
unwritten_by_echo s memory p writes none = sym (contains-pages (pages_of_echo s) p) ∙ rw writes at none

-- where the reach isn't entangled, the pages of the voices are no write pages
pub voices_unwritten : (s : ChipState) (memory : List ℕ) (p : ℕ) → (chip_reach s memory).entangled ≡ false → has_page (pages_of_voices s memory) p ≡ true
    → set.contains (chip_reach s memory).write_pages p ≡ false
unfolding chip_reach reach
voices_unwritten s memory p clear there = by (writes_echo s) clear
  where
    by : (b : Bool) → (b && have_common_page (set.from_list (pages_of_voices s memory)) (set.from_list (pages_of_echo s))) ≡ false
        → set.contains {R = nat_cmp} (if b then set.from_list (pages_of_echo s) else set.empty) p ≡ false
    by true apart = contains-pages (pages_of_echo s) p ∙ apart_right (pages_of_voices s memory) (pages_of_echo s) p apart there
    by false apart = set.contains-empty nat_cmp p
