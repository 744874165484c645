use Rattle.std.proofs.Common.{rules, ◌≡◌, ◌<◌, ℕ, length, slice_index, refl, ap, sym, ◌∙◌}
use Rattle.dsp_state.specs.Registers.{echo_regs}
use Rattle.dsp_state.specs.Settings.{settings_of}
use Rattle.dsp_state.specs.Volumes.{all_volumes}
use Rattle.dsp_state.specs.declared.settings.Settings.{Settings}
use Rattle.dsp_state.specs.declared.registers.TheConstants.{ENDX}
use Rattle.dsp_state.specs.declared.state.ChipState.{ChipState}
use Rattle.batch_rows.specs.Rows.{by_rows, answers}
use Rattle.batch_rows.specs.Once.{endx_after}
use Rattle.batch_rows.proofs.KeysApart.{voices-keys_after, echo-keys_after}
use Rattle.batch_rows.proofs.OneMore.{table-keys_after}
use Rattle.batch_rows.proofs.MakeBatch.{echo_is, registers_are, bits_are}
use Rattle.batch_rows.proofs.batch.play_batch.Goals as goal

pub step_keys-rows-requires-clause-rate : goal.step_keys-rows-requires-clause-rate
unfolding settings_of
step_keys-rows-requires-clause-rate c = ap (λ (settings : Settings). settings.noise_rate) c.requires.settings

pub returns : goal.returns
unfolding by_rows settings_of
returns c =
    let s : ChipState = c.args.state.now in
    let k : ℕ = c.args.samples.now.number in
    let n : ℕ = c.args.samples.now.n in
    let volumes : c.args.settings.now.volumes ≡ all_volumes s.registers s.muted = ap (λ (settings : Settings). settings.volumes) c.requires.settings in
    let voices : c.step_keys-rows.new.state.hidden.voices ≡ s.hidden.voices = ap (λ (t : ChipState). t.hidden.voices) c.step_keys-rows.ensures.state ∙ voices-keys_after k s n in
    let table : s.table ≡ c.step_keys-rows.new.state.table = sym (ap (λ (t : ChipState). t.table) c.step_keys-rows.ensures.state ∙ table-keys_after k s n) in
    let played = rw (volumes, voices) at (c.play_voices.ensures.played k s (record { registers = sym c.step_keys-rows.ensures.registers; table = table; rows = c.step_keys-rows.ensures.rows; clock = c.requires.batch.clock })) in
    let regs : c.args.settings.now.echo ≡ echo_regs s.registers = ap (λ (settings : Settings). settings.echo) c.requires.settings in
    let echo : c.step_keys-rows.new.state.hidden.echo ≡ s.hidden.echo = ap (λ (t : ChipState). t.hidden.echo) c.step_keys-rows.ensures.state ∙ echo-keys_after k s n in
    let ran = echo_is k n s c.args.memory.now c.play_voices.new.voices c.play_voices.new.made.last c.play_voices.new.made.rows.ends c.play_voices.new.made.sums played in
    let eight : length s.hidden.voices ≡ 8 = rw voices at c.play_voices.ensures.eight in
    let long : ENDX < length s.registers = search rules in
    let bits = bits_are k n s c.args.memory.now c.play_voices.new.voices c.play_voices.new.made.last c.play_voices.new.made.rows.ends c.play_voices.new.made.sums played c.step_keys-rows.result eight c.step_keys-rows.ensures.rows c.step_keys-rows.ensures.kon_latched in
    let endx : c.endx_of_batch-endx.result ≡ endx_after (answers k s c.args.memory.now) (slice_index s.registers ENDX) n = rw c.step_keys-rows.ensures.registers at (c.endx_of_batch-endx.ensures (answers k s c.args.memory.now) bits) in
    let registers = registers_are k n s c.args.memory.now c.play_voices.new.voices c.play_voices.new.made.last c.play_voices.new.made.rows.ends c.play_voices.new.made.sums played c.endx_of_batch-endx.result
    c.requires.batch.some eight long endx in
    record {
      made = record {
        state_made = rw (c.put_all_levels.ensures, c.step_keys-rows.ensures.registers, registers, played.voices_are, c.play_echo.ensures.echo_made, regs, echo, ran, c.step_keys-rows.ensures.state) refl;
        memory_made = rw (c.play_echo.ensures.memory_made, regs, echo, ran) refl;
        frames_made = rw (c.play_echo.ensures.frames_made, regs, echo, ran) refl;
      };
    }
