-- What the next 64 samples of the chip can read and write, by pages.
use Rattle.std.specs.Prelude.{ℕ, ◌+◌, List, [], ◌∷◌, ◌++◌, Bool, not, ◌||◌, ◌==◌, slice_index, if◌then◌else◌}
use Rattle.aram_core.specs.Pages.{has_page}
use Rattle.num_fix.specs.Arithmetic.{has_bit}
use Rattle.voice_unit.specs.Directory.{entry_address, start_word, loop_word}
use Rattle.voice_unit.specs.Voice.{VoiceState}
use Rattle.echo_unit.specs.Flg.{has_echo_writes}
use Rattle.echo_unit.specs.Window.{echo_window}
use Rattle.reach_map.specs.Reach.{reach, voice_pages}
use Rattle.aram_core.specs.declared.window.Window.{Window}
use Rattle.reach_map.specs.declared.ChainStart.{ChainStart}
use Rattle.chip_form.specs.declared.pages.ReachPages.{ReachPages}
use Rattle.dsp_state.specs.Registers.{voice_register}
use Rattle.dsp_state.specs.declared.registers.TheConstants.{SRCN, DIR, FLG, ESA, EDL}
use Rattle.dsp_state.specs.declared.state.ChipState.{ChipState}

-- the address of the directory's entry of voice v
abbrev pub voice_entry : (registers : List ℕ) → (v : ℕ) → ℕ
voice_entry registers v = entry_address (slice_index registers DIR) (voice_register registers v SRCN)

-- the entries of the voices from v on
abbrev pub entries_from : (registers : List ℕ) → (v : ℕ) → List VoiceState → List ℕ
entries_from registers v [] = []
entries_from registers v (voice ∷ voices) = voice_entry registers v ∷ entries_from registers (v + 1) voices

-- voice v can go to the start of its sample: its key-on is pending, or it still has its key-on delay
abbrev pub can_start : ChipState → (v : ℕ) → VoiceState → Bool
can_start s v voice = has_bit s.hidden.kon_pending v || not (voice.delay == 0)

-- the chain of the block at which voice v stands
abbrev pub own_chain : ChipState → List ℕ → (v : ℕ) → VoiceState → ChainStart
own_chain s memory v voice =
    record { block = voice.block; loop_word = loop_word (slice_index s.registers DIR) (voice_register s.registers v SRCN) memory }

-- the chain of the start of its sample
abbrev pub start_chain : ChipState → List ℕ → (v : ℕ) → ChainStart
start_chain s memory v =
    let dir = slice_index s.registers DIR in
    let srcn = voice_register s.registers v SRCN in
    record { block = start_word dir srcn memory; loop_word = loop_word dir srcn memory }

-- where voice v can be: at its block, or at the start of its sample
abbrev pub voice_starts : ChipState → List ℕ → (v : ℕ) → VoiceState → List ChainStart
voice_starts s memory v voice = own_chain s memory v voice ∷ (if can_start s v voice then start_chain s memory v ∷ [] else [])

-- where the voices from v on can be
abbrev pub starts_from : ChipState → List ℕ → (v : ℕ) → List VoiceState → List ChainStart
starts_from s memory v [] = []
starts_from s memory v (voice ∷ voices) = voice_starts s memory v voice ++ starts_from s memory (v + 1) voices

-- voice v can read bytes of a page in the next 64 samples: of its entry of the directory, or of a chain on which it can be
unfoldable pub voice_reads : ChipState → (memory : List ℕ) → (v : ℕ) → VoiceState → (page : ℕ) → Bool
voice_reads s memory v voice page = has_page (voice_pages memory (voice_starts s memory v voice) (voice_entry s.registers v ∷ [])) page

-- one of the voices from v on can
unfoldable pub voices_read : ChipState → (memory : List ℕ) → (v : ℕ) → List VoiceState → (page : ℕ) → Bool
voices_read s memory v voices page = has_page (voice_pages memory (starts_from s memory v voices) (entries_from s.registers v voices)) page

-- the echo's window
abbrev pub chip_window : ChipState → Window
chip_window s = echo_window (slice_index s.registers ESA) (slice_index s.registers EDL) s.hidden.echo.length

-- the reach of the chip over a memory
unfoldable pub chip_reach : ChipState → List ℕ → ReachPages
chip_reach s memory =
    reach memory (starts_from s memory 0 s.hidden.voices) (entries_from s.registers 0 s.hidden.voices) (chip_window s)
    (has_echo_writes (slice_index s.registers FLG))
