use Rattle.std.proofs.Common.{◌≡◌, ap, refl, rules, ◌<◌, ◌%◌, ◌==◌, if◌then◌else◌, length, map, pos, List, sym, ◌∙◌}
use Rattle.std.proofs.lemmas.List.{length-map}
use Rattle.voice_unit.specs.Voice.{VoiceState}
use Rattle.dsp_state.specs.Sample.{SharedInput, VoiceResult, results_from, sample, before_voices, shared_input}
use Rattle.dsp_state.specs.Registers.{echo_regs}
use Rattle.dsp_state.specs.Settings.{settings_of}
use Rattle.dsp_state.specs.Volumes.{all_volumes}
use Rattle.dsp_state.specs.declared.settings.Settings.{Settings}
use Rattle.dsp_state.proofs.EightVoices.{length-results_from}
use Rattle.batch_rows.proofs.Keyed.{keyed_bits}
use Rattle.dsp_core.proofs.sample.make_sample.Goals as goal

pub finish_sample-requires : goal.finish_sample-requires
finish_sample-requires c =
    let shared : SharedInput = shared_input c.step_noise.new.state c.args.memory.now c.args.number in
    let voices : List VoiceState = c.step_noise.new.state.hidden.voices in
    let results : length (map (λ (one : VoiceResult). one.voice) (results_from shared 0 (pos 0) voices)) ≡ 8 = rw (c.step_chip_voices.ensures.voices c.requires.clock) at c.step_chip_voices.ensures.eight in
    let eight : length voices ≡ 8 =
    sym (length-map (results_from shared 0 (pos 0) voices) (λ (one : VoiceResult). one.voice) ∙ length-results_from shared 0 (pos 0) voices) ∙ results in
    let below : c.keyed_voices-keyed.result < 0x100 = search rules in
    let is : c.keyed_voices-keyed.result ≡ (if c.args.number % 2 == 0 then c.step_noise.new.state.hidden.kon_latched else 0) = rw (c.step_chip_voices.ensures.voices c.requires.clock) at c.keyed_voices-keyed.ensures in
    rw (c.step_chip_voices.ensures.answers c.requires.clock)
    (keyed_bits shared voices c.keyed_voices-keyed.result eight below is)

pub returns : goal.returns
unfolding sample settings_of
returns c =
    let now : c.step_noise.new.state ≡ before_voices c.args.state.now c.args.number = rw (← c.poll.ensures.state, ← c.requires.clock) c.step_noise.ensures.state in
    let is : c.args.settings.now ≡ settings_of c.step_noise.new.state.registers c.step_noise.new.state.muted = search rules in
    let regs : c.args.settings.now.echo ≡ echo_regs c.step_noise.new.state.registers = ap (λ (s : Settings). s.echo) is in
    let volumes : c.args.settings.now.volumes ≡ all_volumes c.step_noise.new.state.registers c.step_noise.new.state.muted = ap (λ (s : Settings). s.volumes) is in
    record {
      state_made = rw (← now, c.finish_sample.ensures.state, c.step_chip_voices.ensures.voices c.requires.clock, c.step_chip_voices.ensures.answers c.requires.clock, regs) refl;
      memory_made = rw (← now, c.finish_sample.ensures.memory, c.step_chip_voices.ensures.voices c.requires.clock, regs, volumes, c.step_chip_voices.ensures.answers c.requires.clock) refl;
      frame_made = rw (← now, c.finish_sample.ensures.frame, c.step_chip_voices.ensures.voices c.requires.clock, regs, volumes, c.step_chip_voices.ensures.answers c.requires.clock) refl;
      records_made = rw (← now, c.step_chip_voices.ensures.answers c.requires.clock) refl;
    }

pub step_noise-requires : goal.step_noise-requires
unfolding settings_of
step_noise-requires c = rw c.poll.ensures.registers (ap (λ (s : Settings). s.noise_rate) c.requires.settings)
