-- What holds of the state and the memory after some samples, and that one sample more keeps it.
use Rattle.std.proofs.Common.{◌≡◌, ℕ, ◌+◌, ◌%◌, ◌<◌, ◌≤◌, ◌==◌, max, List, Bool, true, false, pos, map, slice_index, refl, ap, ◌∙◌, arith}
use Rattle.std.proofs.lemmas.Bool.{and_parts}
use Rattle.std.specs.FinSet as set
use Rattle.num_fix.specs.Arithmetic.{has_bit}
use Rattle.num_fix.specs.declared.Frame.{Frame}
use Rattle.aram_core.specs.Memory.{byte_at, with_byte}
use Rattle.aram_core.specs.Pages.{page_of, has_page}
use Rattle.voice_unit.specs.declared.interface.VoiceOut.{VoiceOut}
use Rattle.echo_unit.specs.Window.{echo_length}
use Rattle.echo_unit.specs.Echo.{EchoState, is_at_cell, cell_address, echo_memory}
use Rattle.echo_unit.specs.Flg.{has_echo_writes}
use Rattle.echo_unit.specs.declared.regs.EchoRegs.{EchoRegs}
use Rattle.dsp_state.specs.Mix.{sent_frame}
use Rattle.dsp_state.specs.Volumes.{all_volumes}
use Rattle.dsp_state.specs.Reach.{chip_reach}
use Rattle.dsp_state.specs.Registers.{echo_regs}
use Rattle.dsp_state.specs.Sample.{VoiceResult, rest_of_sample, results_from, shared_input, before_voices, sample}
use Rattle.dsp_state.specs.Valid.{is_valid}
use Rattle.dsp_state.specs.declared.registers.TheConstants.{FLG, ESA, EDL}
use Rattle.dsp_state.specs.declared.state.ChipState.{ChipState}
use Rattle.dsp_state.proofs.EightVoices.{voices-before_voices}
use Rattle.echo_unit.proofs.Cells.{cell_of, is_at_cell-next_echo}
use Rattle.dsp_state.proofs.Valid.{valid_of, echo-before_voices}
use Rattle.reach_laws.specs.Chain.{AllStayOnChains}
use Rattle.dsp_state.proofs.Inputs.{SameInputs, same_inputs-registers_after, registers-before_voices}
use Rattle.reach_laws.proofs.Keys.{IsPart, kon_pending-before_voices, latched_was_pending}
use Rattle.reach_laws.proofs.EchoPlace.{length-next_echo}
use Rattle.echo_unit.proofs.ApartFromCell.{IsApartFromCell, byte_at-echo_memory, echo_memory_still}
use Rattle.reach_laws.proofs.EchoPages.{apart_from_window, after_reading_apart, next_echo_apart, echo_memory_apart}
use Rattle.reach_laws.proofs.ReachOfChip.{pages_of_echo, writes_echo, unread_by_voices, unread_by_echo, unwritten_by_echo, voices_unwritten}
use Rattle.reach_laws.proofs.Voices.{FindTheSame, all_same, voices_at_start, voices_stay, voices_apart}

-- After j samples from a start, over a memory: the registers but those of results are as they were, no key-on is pending that
-- was not, the echo stands at a cell of the window, and the bytes off the write pages are as they were. Where the reach of
-- the start isn't entangled, the voices are on their chains.
pub record StaysInReach (start : ChipState) (before : List ℕ) (j : ℕ) (s : ChipState) (memory : List ℕ) : Type 0 where
  pub inputs : SameInputs s.registers start.registers
  pub kon_pending : IsPart s.hidden.kon_pending start.hidden.kon_pending
  pub cell : is_at_cell s.hidden.echo ≡ true
  pub length : s.hidden.echo.length ≤ max start.hidden.echo.length (echo_length (slice_index start.registers EDL))
  pub bytes : (at : ℕ) → set.contains (chip_reach start before).write_pages (page_of at) ≡ false → byte_at memory at ≡ byte_at before at
  pub voices : (chip_reach start before).entangled ≡ false → AllStayOnChains start before j 0 start.hidden.voices s.hidden.voices

-- it holds at a valid start
pub stays_at_start : (s : ChipState) (memory : List ℕ) → is_valid s ≡ true → StaysInReach s memory 0 s memory
stays_at_start s memory valid = record {
  inputs = λ address h. refl;
  kon_pending = λ v h. h;
  cell = (valid_of s valid).cell;
  length = omega arith;
  bytes = λ at none. refl;
  voices = λ clear. voices_at_start s memory valid;
}

pub sample_is : (k : ℕ) (s : ChipState) (memory : List ℕ) → sample k s memory ≡ rest_of_sample k (before_voices s k) memory
unfolding sample
sample_is k s memory = refl

-- the poll and the noise keep it
stays_polled : (start : ChipState) (before : List ℕ) (j k : ℕ) (s : ChipState) (memory : List ℕ) → StaysInReach start before j s memory → StaysInReach start before j (before_voices s k) memory
stays_polled start before j k s memory stays = record {
  inputs = λ address h. ap (λ (registers : List ℕ). slice_index registers address) (registers-before_voices s k) ∙ stays.inputs address h;
  kon_pending = λ v h. stays.kon_pending v (kon_pending-before_voices s k v h);
  cell = ap is_at_cell (echo-before_voices s k) ∙ stays.cell;
  length = rw (echo-before_voices s k) stays.length;
  bytes = stays.bytes;
  voices = λ clear. rw (voices-before_voices s k) (stays.voices clear);
}

-- what the voices find in the sample that follows
finds : (start : ChipState) (before : List ℕ) (j k : ℕ) (s : ChipState) (memory : List ℕ) → j ≤ 64 → StaysInReach start before j s memory → (chip_reach start before).entangled ≡ false
    → FindTheSame start before j 0 start.hidden.voices (shared_input (before_voices s k) memory k)
finds start before j k s memory few stays clear =
    let now : StaysInReach start before j (before_voices s k) memory = stays_polled start before j k s memory stays in
    record {
      registers = now.inputs;
      bytes = all_same start before j 0 start.hidden.voices memory before few (λ at there. stays.bytes at (voices_unwritten start before (page_of at) clear there));
      keyed = λ v keyed. let parts = and_parts (k % 2 == 0) (has_bit (before_voices s k).hidden.kon_latched v) keyed in stays.kon_pending v (latched_was_pending s k v parts.0 parts.1);
    }

-- the registers that the echo reads
regs_esa : (registers : List ℕ) → (echo_regs registers).esa ≡ slice_index registers ESA
unfolding echo_regs
regs_esa registers = refl

regs_edl : (registers : List ℕ) → (echo_regs registers).edl ≡ slice_index registers EDL
unfolding echo_regs
regs_edl registers = refl

regs_flg : (registers : List ℕ) → (echo_regs registers).flg ≡ slice_index registers FLG
unfolding echo_regs
regs_flg registers = refl

-- an address off the pages of the window is off the echo's cell
apart_from_echo : (start : ChipState) (before : List ℕ) (j : ℕ) (s : ChipState) (memory : List ℕ) (at : ℕ) → StaysInReach start before j s memory
    → has_page (pages_of_echo start) (page_of at) ≡ false → IsApartFromCell (cell_address (echo_regs s.registers).esa s.hidden.echo.offset) at
apart_from_echo start before j s memory at stays none =
    let echo : EchoState = s.hidden.echo in
    rw (regs_esa s.registers, stays.inputs ESA refl)
    (apart_from_window echo (slice_index start.registers ESA) (slice_index start.registers EDL) start.hidden.echo.length at (cell_of echo stays.cell) stays.length none)

-- the echo writes no byte off the write pages
writes_apart : (start : ChipState) (before : List ℕ) (j : ℕ) (s : ChipState) (memory : List ℕ) (sent : Frame) (at : ℕ) → StaysInReach start before j s memory
    → set.contains (chip_reach start before).write_pages (page_of at) ≡ false
    → byte_at (echo_memory s.hidden.echo (echo_regs s.registers) memory sent) at ≡ byte_at memory at
writes_apart start before j s memory sent at stays none = by (writes_echo start) refl
  where
    flg : has_echo_writes (echo_regs s.registers).flg ≡ writes_echo start
    flg = ap has_echo_writes (regs_flg s.registers ∙ stays.inputs FLG refl)

    by : (b : Bool) → writes_echo start ≡ b → byte_at (echo_memory s.hidden.echo (echo_regs s.registers) memory sent) at ≡ byte_at memory at
    by true on = byte_at-echo_memory s.hidden.echo (echo_regs s.registers) memory sent at (apart_from_echo start before j s memory at stays (unwritten_by_echo start before (page_of at) on none))
    by false off = ap (λ (m : List ℕ). byte_at m at) (echo_memory_still s.hidden.echo (echo_regs s.registers) memory sent (flg ∙ off))

-- one sample keeps it
pub stays_in_reach : (start : ChipState) (before : List ℕ) (j k : ℕ) (s : ChipState) (memory : List ℕ) → j < 64 → StaysInReach start before j s memory
    → StaysInReach start before (j + 1) (sample k s memory).state (sample k s memory).memory
stays_in_reach start before j k s memory few stays = rw (sample_is k s memory) next
  where
    now : ChipState
    now = before_voices s k

    held : StaysInReach start before j now memory
    held = stays_polled start before j k s memory stays

    results : List VoiceResult
    results = results_from (shared_input now memory k) 0 (pos 0) now.hidden.voices

    answers : List VoiceOut
    answers = map (λ (result : VoiceResult). result.answer) results

    regs : EchoRegs
    regs = echo_regs now.registers

    edl : (echo_regs now.registers).edl ≡ slice_index start.registers EDL
    edl = regs_edl now.registers ∙ held.inputs EDL refl

    next : StaysInReach start before (j + 1) (rest_of_sample k now memory).state (rest_of_sample k now memory).memory
    next = record {
      inputs = λ address h. same_inputs-registers_after answers now.registers address h ∙ held.inputs address h;
      kon_pending = held.kon_pending;
      cell = is_at_cell-next_echo now.hidden.echo regs memory held.cell;
      length = length-next_echo now.hidden.echo regs memory start.hidden.echo.length (slice_index start.registers EDL) edl held.length;
      bytes = λ at none. writes_apart start before j now memory (sent_frame (all_volumes now.registers now.muted) answers) at held none ∙ held.bytes at none;
      voices = λ clear. voices_stay start before j 0 (pos 0) (shared_input now memory k) start.hidden.voices now.hidden.voices (finds start before j k s memory (omega arith) stays clear) (held.voices clear);
    }

-- a byte put off the read pages of a reach that isn't entangled changes nothing of what one sample does
pub reads_in_reach : (start : ChipState) (before : List ℕ) (j k : ℕ) (s : ChipState) (memory : List ℕ) (at value : ℕ) → j < 64 → StaysInReach start before j s memory
    → (chip_reach start before).entangled ≡ false → set.contains (chip_reach start before).read_pages (page_of at) ≡ false
    → sample k s (with_byte memory at value) ≡ record (sample k s memory) { memory = with_byte (sample k s memory).memory at value }
reads_in_reach start before j k s memory at value few stays clear none =
    rw (sample_is k s (with_byte memory at value), sample_is k s memory) same
  where
    now : ChipState
    now = before_voices s k

    held : StaysInReach start before j now memory
    held = stays_polled start before j k s memory stays

    regs : EchoRegs
    regs = echo_regs now.registers

    off : IsApartFromCell (cell_address regs.esa now.hidden.echo.offset) at
    off = apart_from_echo start before j now memory at held (unread_by_echo start before (page_of at) none)

    results : results_from (record (shared_input now memory k) { memory = with_byte memory at value }) 0 (pos 0) now.hidden.voices ≡ results_from (shared_input now memory k) 0 (pos 0) now.hidden.voices
    results =
        voices_apart start before j 0 (pos 0) (shared_input now memory k) start.hidden.voices now.hidden.voices at value (finds start before j k s memory (omega arith) stays clear) (omega arith) (held.voices clear)
        (unread_by_voices start before (page_of at) none)

    same : rest_of_sample k now (with_byte memory at value) ≡ record (rest_of_sample k now memory) { memory = with_byte (rest_of_sample k now memory).memory at value }
    same =
        let answers : List VoiceOut = map (λ (result : VoiceResult). result.answer) (results_from (shared_input now memory k) 0 (pos 0) now.hidden.voices) in
        rw (
          results,
          next_echo_apart now.hidden.echo regs memory at value off,
          after_reading_apart now.hidden.echo regs memory at value off,
          echo_memory_apart now.hidden.echo regs memory (sent_frame (all_volumes now.registers now.muted) answers) at value off,
        ) refl
