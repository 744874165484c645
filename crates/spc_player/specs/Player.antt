-- What contracts see of a player on the S-DSP: the words on any player, at its chip.
use Rattle.std.specs.Prelude.{ℕ, List}
use Rattle.num_fix.specs.declared.Frame.{Frame}
use Rattle.dsp_state.specs.declared.state.ChipState.{ChipState}
use Rattle.dsp_core.specs.Saved.{SavedDsp}
use Rattle.dsp_core.specs.DspChip.{dsp_chip, dsp_saving}
use Rattle.lock_step.specs.Machine.{Machine}
use Rattle.render_core.specs.MachineRun.{Whole}
use Rattle.cut_form.specs.Checkpoints.{Checkpoint}
use Rattle.cut_form.specs.Marks.{MarkOutcome}
use Rattle.player.specs.Player as any
use denote.RattleType.{RattleType}
use Rattle.player.specs.contracts.player.Player as of_any
use Rattle.dsp_state.specs.contracts.state.ChipState as state
use Rattle.dsp_core.specs.contracts.dsp.Dsp as dsp
use Rattle.dsp_core.specs.contracts.saved.DspState as saved
use Rattle.dsp_core.specs.contracts.chip.DspChip.TheImpl as as_chip

abbrev pub SpcPlayer : Type 0
SpcPlayer = any.PlayerState ChipState SavedDsp

-- what a proof knows of its type
abbrev pub player_row : RattleType
player_row = of_any.the_row dsp.the_row state.the_row saved.the_row as_chip.ghosts

-- the machine at the opening of the tune
abbrev pub opening_of : SpcPlayer → Whole (Machine ChipState)
opening_of player = any.opening_of dsp_chip dsp_saving player

-- the frames of the tune's run to so many samples, the pages of its memory then, and its S-DSP
abbrev pub frames_of : SpcPlayer → (samples : ℕ) → List Frame
frames_of player = any.frames_of dsp_chip dsp_saving player

abbrev pub memory_of : SpcPlayer → (samples : ℕ) → List (List ℕ)
memory_of player = any.memory_of dsp_chip dsp_saving player

abbrev pub chip_of : SpcPlayer → (samples : ℕ) → ChipState
chip_of player = any.chip_of dsp_chip dsp_saving player

-- the S-DSP at the position
abbrev pub chip_here : SpcPlayer → ChipState
chip_here player = any.chip_here dsp_chip dsp_saving player

-- a mark at the position, the marks once so many frames more are played, and those frames with the fade of its end
abbrev pub marking : SpcPlayer → MarkOutcome
marking player = any.marking dsp_chip dsp_saving player

abbrev pub marks_played : SpcPlayer → (count : ℕ) → List Checkpoint
marks_played player count = any.marks_played dsp_chip dsp_saving player count

abbrev pub faded_frames_played : SpcPlayer → (count : ℕ) → List Frame
faded_frames_played player count = any.faded_frames_played dsp_chip dsp_saving player count

-- what each call keeps
abbrev pub KeepsPlayer : (old new : SpcPlayer) → Type 0
KeepsPlayer old new = any.KeepsPlayer dsp_chip dsp_saving old new
