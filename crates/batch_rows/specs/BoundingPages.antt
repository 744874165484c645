-- What voices can read, by a conservative test that walks no chain.
use Rattle.std.specs.Prelude.{◌≡◌, ℕ, ◌*◌, List, ◌++◌, flat_map, true, false}
use Rattle.aram_core.specs.Pages.{has_page}
use Rattle.reach_map.specs.Reach.{pages_of_bytes, entry_pages, window_pages}
use Rattle.reach_map.specs.declared.ChainStart.{ChainStart}
use Rattle.reach_map.specs.declared.voices.TheConstants.{CHAIN_BYTES}
use Rattle.voice_unit.specs.Voice.{VoiceState}
use Rattle.dsp_state.specs.Reach.{voice_entry, voice_starts, starts_from, entries_from}
use Rattle.dsp_state.specs.declared.state.ChipState.{ChipState}

-- the pages of the bytes of a chain from its start on, and of as many from its loop word on
abbrev pub bounding_pages : ChainStart → List ℕ
bounding_pages start = pages_of_bytes start.block CHAIN_BYTES ++ pages_of_bytes start.loop_word CHAIN_BYTES

-- the pages of voices with these starts and entries, by conservative bounds
abbrev pub bounding_voice_pages : List ChainStart → (entries : List ℕ) → List ℕ
bounding_voice_pages starts entries = flat_map entry_pages entries ++ flat_map bounding_pages starts

-- and those of the voices of a chip
abbrev pub bounding_pages_of_chip : ChipState → (memory : List ℕ) → List ℕ
bounding_pages_of_chip s memory = bounding_voice_pages (starts_from s memory 0 s.hidden.voices) (entries_from s.registers 0 s.hidden.voices)

-- the pages of a window of so many bytes from page ESA on
abbrev pub window_from : (esa len : ℕ) → List ℕ
window_from esa len = window_pages record { start = esa * 0x100; len = len }

-- no page of the one list is one of the other
abbrev pub AreApart : (these those : List ℕ) → Type 0
AreApart these those = (page : ℕ) → has_page these page ≡ true → has_page those page ≡ false

-- what voice v can read, by conservative bounds, has no page of such a window
unfoldable pub IsVoiceApart : ChipState → List ℕ → (v : ℕ) → VoiceState → (esa len : ℕ) → Type 0
IsVoiceApart s memory v voice esa len =
    AreApart (entry_pages (voice_entry s.registers v) ++ flat_map bounding_pages (voice_starts s memory v voice)) (window_from esa len)
