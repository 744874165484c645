-- Samples whose cells have no byte that a voice can read in them: the voices stay on their chains, and find there what was there before.
use Rattle.std.proofs.Common.{◌≡◌, ℕ, ◌+◌, ◌%◌, ◌<◌, ◌≤◌, ◌==◌, List, [], ◌∷◌, pos, map, slice_index, true, refl, ap, ◌∙◌, add-one, arith}
use Rattle.std.proofs.lemmas.Bool.{and_parts}
use Rattle.num_fix.specs.Arithmetic.{has_bit}
use Rattle.aram_core.specs.Memory.{byte_at}
use Rattle.voice_unit.specs.declared.interface.VoiceOut.{VoiceOut}
use Rattle.voice_unit.specs.Voice.{VoiceState}
use Rattle.reach_map.specs.Reach.{chain_entry}
use Rattle.reach_map.specs.declared.ChainStart.{ChainStart}
use Rattle.echo_unit.specs.Echo.{EchoState, cell_address, next_echo, after_reading, at_next_cell}
use Rattle.echo_unit.specs.Cells.{after_cells, cell_after}
use Rattle.echo_unit.specs.declared.regs.EchoRegs.{EchoRegs}
use Rattle.echo_unit.proofs.ApartFromCell.{IsApartFromCell, byte_at-echo_memory}
use Rattle.chip_form.specs.Samples.{samples}
use Rattle.chip_form.proofs.AfterSamples.{samples_keep}
use Rattle.dsp_state.specs.Mix.{sent_frame}
use Rattle.dsp_state.specs.Volumes.{all_volumes}
use Rattle.dsp_state.specs.Reach.{voice_entry, own_chain, start_chain}
use Rattle.dsp_state.specs.Registers.{echo_regs}
use Rattle.dsp_state.specs.Sample.{VoiceResult, rest_of_sample, results_from, shared_input, before_voices, sample}
use Rattle.dsp_state.specs.Settings.{settings_of}
use Rattle.dsp_state.specs.Valid.{is_valid}
use Rattle.dsp_state.specs.declared.settings.Settings.{Settings}
use Rattle.dsp_state.specs.declared.state.ChipState.{ChipState}
use Rattle.dsp_state.proofs.EightVoices.{voices-before_voices}
use Rattle.dsp_state.proofs.Inputs.{SameInputs, same_inputs-registers_after, registers-before_voices}
use Rattle.dsp_state.proofs.ReadOnce.{same_settings}
use Rattle.dsp_state.proofs.Valid.{echo-before_voices}
use Rattle.reach_laws.specs.Chain.{AllStayOnChains}
use Rattle.reach_laws.specs.CellsMiss.{CellsMiss, CellsMissChain, CellsMissVoices}
use Rattle.reach_laws.proofs.Keys.{IsPart, kon_pending-before_voices, latched_was_pending}
use Rattle.reach_laws.proofs.OneSample.{sample_is}
use Rattle.reach_laws.proofs.Same.{AreSameOnChain, AllSameFor}
use Rattle.reach_laws.proofs.Voices.{FindTheSame, voices_at_start, voices_stay}

-- a row of addresses is that of the first n cells of a chip's echo
abbrev pub AreCells : (cell : ℕ → ℕ) → ChipState → (n : ℕ) → Type 0
AreCells cell s n = (j : ℕ) → j < n → cell j % 0x10000 ≡ cell_after s.hidden.echo (echo_regs s.registers) j

-- an address is that of no byte of the first j cells
abbrev pub IsApartFromCells : ChipState → (j at : ℕ) → Type 0
IsApartFromCells s j at = (i : ℕ) → i < j → IsApartFromCell (cell_after s.hidden.echo (echo_regs s.registers) i) at

-- of bytes that the cells miss each is such
apart_from_cell : (cell : ℕ → ℕ) (address n start count i k : ℕ) → cell i % 0x10000 ≡ address → CellsMiss cell n start count → i < n → k < count → IsApartFromCell address (start + k)
apart_from_cell cell address n start count i k is miss below small = record {
  first = λ e. miss i 0 k below (omega arith) small (omega (arith, e, is));
  second = λ e. miss i 1 k below (omega arith) small (omega (arith, e, is));
  third = λ e. miss i 2 k below (omega arith) small (omega (arith, e, is));
  fourth = λ e. miss i 3 k below (omega arith) small (omega (arith, e, is));
}

-- memories that differ in the first cells alone have the same bytes where the voices can look
module _ (cell : ℕ → ℕ) (s : ChipState) (memory now : List ℕ) (n j : ℕ) (are : AreCells cell s n) (below : j < n)
    (bytes : (at : ℕ) → IsApartFromCells s j at → byte_at now at ≡ byte_at memory at) where
  missed : (start count k : ℕ) → CellsMiss cell n start count → k < count → byte_at now (start + k) ≡ byte_at memory (start + k)
  missed start count k miss small =
      bytes (start + k) (λ i before. apart_from_cell cell (cell_after s.hidden.echo (echo_regs s.registers) i) n start count i k (are i (omega (arith, before, below))) miss (omega (arith, before, below)) small)

  chain_missed : (start : ChainStart) → CellsMissChain cell memory n start → AreSameOnChain memory start j now memory
  chain_missed start miss i k pace small = missed (chain_entry memory start i) 9 k (miss i (omega (arith, pace, below))) small

  pub all_missed : (v : ℕ) (voices : List VoiceState) → CellsMissVoices cell s memory n v voices → AllSameFor s memory j v voices now memory
  all_missed v [] miss = tt
  all_missed v (voice ∷ voices) miss = (
    record {
      entry = λ k small. missed (voice_entry s.registers v) 4 k miss.0.entry small;
      own = chain_missed (own_chain s memory v voice) miss.0.own;
      start = λ starts. chain_missed (start_chain s memory v) (miss.0.start starts);
    },
    all_missed (v + 1) voices miss.1,
  )

-- the echo reads the same of registers that differ in results alone
same_echo : (these those : List ℕ) → SameInputs these those → echo_regs these ≡ echo_regs those
unfolding settings_of
same_echo these those same = ap (λ (settings : Settings). settings.echo) (same_settings these those same 0)

-- a step takes the echo to the next cell
place-next_echo : (echo at : EchoState) (regs : EchoRegs) (memory : List ℕ) → echo.offset ≡ at.offset → echo.length ≡ at.length
    → ((next_echo echo regs memory).offset ≡ (at_next_cell at regs.edl).offset) × ((next_echo echo regs memory).length ≡ (at_next_cell at regs.edl).length)
unfolding next_echo after_reading at_next_cell
place-next_echo echo at regs memory offset length = (rw (offset, length) refl, rw (offset, length) refl)

apart_from_same : (a b at : ℕ) → a ≡ b → IsApartFromCell b at → IsApartFromCell a at
apart_from_same a b at same off = rw same off

-- After j samples from a start, over a memory: the registers but those of results are as they were, no key-on is pending that was not, the echo
-- is j cells further, the bytes off these cells are as they were, and the voices are on their chains.
pub record StaysByBytes (start : ChipState) (before : List ℕ) (j : ℕ) (s : ChipState) (memory : List ℕ) : Type 0 where
  pub inputs : SameInputs s.registers start.registers
  pub kon_pending : IsPart s.hidden.kon_pending start.hidden.kon_pending
  pub offset : s.hidden.echo.offset ≡ (after_cells start.hidden.echo (echo_regs start.registers).edl j).offset
  pub length : s.hidden.echo.length ≡ (after_cells start.hidden.echo (echo_regs start.registers).edl j).length
  pub bytes : (at : ℕ) → IsApartFromCells start j at → byte_at memory at ≡ byte_at before at
  pub voices : AllStayOnChains start before j 0 start.hidden.voices s.hidden.voices

stays_at_start : (s : ChipState) (memory : List ℕ) → is_valid s ≡ true → StaysByBytes s memory 0 s memory
stays_at_start s memory valid = record {
  inputs = λ address h. refl;
  kon_pending = λ v h. h;
  offset = refl;
  length = refl;
  bytes = λ at off. refl;
  voices = voices_at_start s memory valid;
}

-- the poll and the noise keep it
stays_polled : (start : ChipState) (before : List ℕ) (j k : ℕ) (s : ChipState) (memory : List ℕ) → StaysByBytes start before j s memory → StaysByBytes start before j (before_voices s k) memory
stays_polled start before j k s memory stays = record {
  inputs = λ address h. ap (λ (registers : List ℕ). slice_index registers address) (registers-before_voices s k) ∙ stays.inputs address h;
  kon_pending = λ v h. stays.kon_pending v (kon_pending-before_voices s k v h);
  offset = ap (λ (e : EchoState). e.offset) (echo-before_voices s k) ∙ stays.offset;
  length = ap (λ (e : EchoState). e.length) (echo-before_voices s k) ∙ stays.length;
  bytes = stays.bytes;
  voices = rw (voices-before_voices s k) stays.voices;
}

module _ (cell : ℕ → ℕ) (start : ChipState) (before : List ℕ) (n : ℕ) (are : AreCells cell start n) (miss : CellsMissVoices cell start before n 0 start.hidden.voices) where
  -- what the voices find in the sample that follows
  pub finds : (j k : ℕ) (s : ChipState) (memory : List ℕ) → j < n → StaysByBytes start before j s memory
      → FindTheSame start before j 0 start.hidden.voices (shared_input (before_voices s k) memory k)
  finds j k s memory below stays =
      let now : StaysByBytes start before j (before_voices s k) memory = stays_polled start before j k s memory stays in
      record {
        registers = now.inputs;
        bytes = all_missed cell start before memory n j are below stays.bytes 0 start.hidden.voices miss;
        keyed = λ v keyed. let parts = and_parts (k % 2 == 0) (has_bit (before_voices s k).hidden.kon_latched v) keyed in stays.kon_pending v (latched_was_pending s k v parts.0 parts.1);
      }

  -- one sample keeps it
  stays_on : (j k : ℕ) (s : ChipState) (memory : List ℕ) → j < n → StaysByBytes start before j s memory → StaysByBytes start before (j + 1) (sample k s memory).state (sample k s memory).memory
  stays_on j k s memory below stays = rw (sample_is k s memory) next
    where
      now : ChipState
      now = before_voices s k

      held : StaysByBytes start before j now memory
      held = stays_polled start before j k s memory stays

      results : List VoiceResult
      results = results_from (shared_input now memory k) 0 (pos 0) now.hidden.voices

      answers : List VoiceOut
      answers = map (λ (result : VoiceResult). result.answer) results

      regs : EchoRegs
      regs = echo_regs start.registers

      same : echo_regs now.registers ≡ regs
      same = same_echo now.registers start.registers held.inputs

      place : ((next_echo now.hidden.echo (echo_regs now.registers) memory).offset ≡ (after_cells start.hidden.echo regs.edl (j + 1)).offset)
          × ((next_echo now.hidden.echo (echo_regs now.registers) memory).length ≡ (after_cells start.hidden.echo regs.edl (j + 1)).length)
      place = rw (same, add-one) (place-next_echo now.hidden.echo (after_cells start.hidden.echo regs.edl j) regs memory held.offset held.length)

      address : cell_address (echo_regs now.registers).esa now.hidden.echo.offset ≡ cell_after start.hidden.echo regs j
      address = rw (same, held.offset) refl

      next : StaysByBytes start before (j + 1) (rest_of_sample k now memory).state (rest_of_sample k now memory).memory
      next = record {
        inputs = λ address h. same_inputs-registers_after answers now.registers address h ∙ held.inputs address h;
        kon_pending = held.kon_pending;
        offset = place.0;
        length = place.1;
        bytes = λ at off.
            byte_at-echo_memory now.hidden.echo (echo_regs now.registers) memory (sent_frame (all_volumes now.registers now.muted) answers) at (apart_from_same _ _ at address (off j (omega arith)))
            ∙ held.bytes at (λ i earlier. off i (omega (arith, earlier)));
        voices = voices_stay start before j 0 (pos 0) (shared_input now memory k) start.hidden.voices now.hidden.voices (finds j k s memory below stays) held.voices;
      }

  -- what holds after up to n samples
  pub stays_by_bytes : (j k : ℕ) → j ≤ n → n ≤ 64 → is_valid start ≡ true → StaysByBytes start before j (samples sample j k start before).state (samples sample j k start before).memory
  stays_by_bytes j k few most valid =
      samples_keep sample (λ i s memory. i ≤ n → StaysByBytes start before i s memory)
      (λ i number s memory below held more. stays_on i number s memory (omega arith) (held (omega arith)))
      j k start before (omega arith) (λ none. stays_at_start start before valid) few
