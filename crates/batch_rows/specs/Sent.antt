-- Voices that are sent to the echo at their own volumes: what they send is what is heard of them.
use Rattle.std.specs.Prelude.{◌≡◌, List, map, pos}
use Rattle.dsp_state.specs.declared.volumes.Volumes.{Volumes}

-- the volumes of a voice that is sent at its own
abbrev pub sent_whole : Volumes → Volumes
sent_whole one = record one { sent_left = one.left; sent_right = one.right }

-- those of one that isn't sent
abbrev pub unsent : Volumes → Volumes
unsent one = record one { sent_left = pos 0; sent_right = pos 0 }

-- all voices are sent at their own
abbrev pub AreAllSent : List Volumes → Type 0
AreAllSent volumes = map sent_whole volumes ≡ volumes
