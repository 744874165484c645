use Rattle.std.proofs.Common.{◌≡◌, ◌<◌, to_z, of_z, rules, refl}
use Rattle.std.specs.Int.{w16}
use Rattle.dsp_state.specs.Settings.{settings_of, voice_settings}
use Rattle.dsp_state.specs.Sample.{voice_in}
use Rattle.dsp_state.proofs.ReadOnce.{voice_at}
use Rattle.dsp_core.proofs.voices.voice_in.Goals as goal

pub returns-clause-value : goal.returns-clause-value
unfolding voice_in settings_of voice_settings
returns-clause-value c registers muted is =
    let place : c.from.result ≡ c.args.v = c.from.ensures in
    let below : c.args.v < 8 = c.requires in
    let at = voice_at registers muted c.args.settings.now c.args.v c.index-settings-from.result is below in
    let whole : to_z w16 (of_z w16 c.args.previous) ≡ c.args.previous = search rules in
    rw (place, at, is, whole, c.has_bit.ensures) refl
