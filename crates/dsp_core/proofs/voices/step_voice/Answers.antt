use Rattle.std.proofs.Common.{◌≡◌, ◌<◌, to_z, of_z, rules, refl}
use Rattle.std.specs.Int.{w16}
use Rattle.dsp_state.specs.Settings.{voice_settings}
use Rattle.dsp_state.specs.Sample.{voice_result}
use Rattle.dsp_state.proofs.ReadOnce.{voice_at}
use Rattle.dsp_core.proofs.voices.step_voice.Goals as goal

pub returns-clause-voice : goal.returns-clause-voice
unfolding voice_result voice_settings
returns-clause-voice c registers muted is =
    let place : c.from.result ≡ c.args.v = c.from.ensures in
    let below : c.args.v < 8 = c.requires.v in
    let at = voice_at registers muted c.args.reads.now.settings.now c.args.v c.index-settings-from.result is below in
    let whole : to_z w16 (of_z w16 c.args.previous) ≡ c.args.previous = search rules in
    rw (c.step.ensures.voice, place, at, c.voice_in-input.ensures.value registers muted is, whole) refl

pub returns-clause-answer : goal.returns-clause-answer
unfolding voice_result voice_settings
returns-clause-answer c registers muted is =
    let place : c.from.result ≡ c.args.v = c.from.ensures in
    let below : c.args.v < 8 = c.requires.v in
    let at = voice_at registers muted c.args.reads.now.settings.now c.args.v c.index-settings-from.result is below in
    let whole : to_z w16 (of_z w16 c.args.previous) ≡ c.args.previous = search rules in
    rw (c.step.ensures.answer, place, at, c.voice_in-input.ensures.value registers muted is, whole) refl
