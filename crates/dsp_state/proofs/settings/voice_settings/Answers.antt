use Rattle.std.proofs.Common.{◌≡◌, ◌<◌, Bool, subst}
use Rattle.std.proofs.Math.Bridge.{le_prop}
use Rattle.voice_unit.specs.declared.interface.VoiceRegs.{VoiceRegs}
use Rattle.dsp_state.specs.Registers.{voice_regs}
use Rattle.dsp_state.specs.Settings.{voice_settings}
use Rattle.dsp_state.specs.declared.voice_settings.VoiceSettings.{VoiceSettings}
use Rattle.dsp_state.proofs.settings.voice_settings.Goals as goal

-- settings are known by what they say, whatever shows the bound of their pitch
same_settings : (r s : VoiceRegs) (a b c d e f : Bool) (p : r.pitch < 0x4000) (q : s.pitch < 0x4000) → r ≡ s → a ≡ b → c ≡ d → e ≡ f
    → let these : VoiceSettings = record { regs = r; modulated = a; noisy = c; koff = e; pitch_of_14_bits = p } in
    let those : VoiceSettings = record { regs = s; modulated = b; noisy = d; koff = f; pitch_of_14_bits = q } in
    these ≡ those
same_settings r s a b c d e f p q regs modulated noisy koff =
    subst
    (λ (t : VoiceRegs). (q : t.pitch < 0x4000)
    → let these : VoiceSettings = record { regs = r; modulated = a; noisy = c; koff = e; pitch_of_14_bits = p } in
    let those : VoiceSettings = record { regs = t; modulated = b; noisy = d; koff = f; pitch_of_14_bits = q } in
    these ≡ those)
    regs (λ q. (λ i. record { regs = r; modulated = modulated i; noisy = noisy i; koff = koff i; pitch_of_14_bits = le_prop p q i })) q

pub returns : goal.returns
unfolding voice_settings voice_regs
returns c = same_settings _ _ _ _ _ _ _ _ _ _ c.voice_regs.ensures.value c.is_modulated.ensures c.has_bit.ensures c.has_bit-2.ensures
