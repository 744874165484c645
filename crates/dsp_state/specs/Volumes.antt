-- The volumes of the voices, and those at which the muted ones are heard.
use Rattle.std.specs.Prelude.{ℕ, List, map, pos, slice_index, if◌then◌else◌}
use Rattle.std.specs.List.{range_with_len}
use Rattle.num_fix.specs.Arithmetic.{sign8, has_bit}
use Rattle.dsp_state.specs.Registers.{voice_register}
use Rattle.dsp_state.specs.declared.registers.TheConstants.{VOLL, VOLR, EON}
use Rattle.dsp_state.specs.declared.volumes.Volumes.{Volumes}

-- the volumes of voice v; it is sent to the echo at its volumes where its bit of EON is set, and else at volume 0
unfoldable pub voice_volumes : (registers : List ℕ) → (v : ℕ) → Volumes
voice_volumes registers v =
    let left = sign8 (voice_register registers v VOLL) in
    let right = sign8 (voice_register registers v VOLR) in
    let is_sent = has_bit (slice_index registers EON) v in
    record { left = left; right = right; sent_left = if is_sent then left else pos 0; sent_right = if is_sent then right else pos 0 }

-- the volumes at which a voice is not heard
abbrev pub no_volumes : Volumes
no_volumes = record { left = pos 0; right = pos 0; sent_left = pos 0; sent_right = pos 0 }

-- the volumes at which voice v is heard: its own, unless its bit of the muted voices is set
unfoldable pub heard_volumes : (registers : List ℕ) → (muted v : ℕ) → Volumes
heard_volumes registers muted v = if has_bit muted v then no_volumes else voice_volumes registers v

-- the volumes at which all voices are heard
unfoldable pub all_volumes : (registers : List ℕ) → (muted : ℕ) → List Volumes
all_volumes registers muted = map (λ v. heard_volumes registers muted v) (range_with_len 0 8)
