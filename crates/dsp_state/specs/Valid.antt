-- The states that a chip can be in.
use Rattle.std.specs.Prelude.{length, Bool, ◌&&◌, ◌==◌}
use Rattle.std.specs.List.{list_all}
use Rattle.voice_unit.specs.Voice.{is_at_group}
use Rattle.echo_unit.specs.Echo.{is_at_cell}
use Rattle.dsp_state.specs.declared.state.ChipState.{ChipState}

-- eight voices at groups of their blocks, and the echo at a cell of its buffer
unfoldable pub is_valid : ChipState → Bool
is_valid s = length s.hidden.voices == 8 && list_all is_at_group s.hidden.voices && is_at_cell s.hidden.echo
