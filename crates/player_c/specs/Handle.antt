-- The handle, and what calls make of the player that it has.
use Rattle.std.specs.Prelude.{◌≡◌, ◌+◌, ◌-◌, ℕ, min, List, Option, Some, None, IsSome}
use Rattle.chip_form.specs.Samples.{count_after}
use Rattle.cut_form.specs.Checkpoints.{Checkpoint}
use Rattle.spc_form.specs.declared.tags.Length.{Length}
use Rattle.spc_player.specs.declared.options.PlayerOptions.{PlayerOptions}
use Rattle.player.specs.Player.{position_of, marks_of, made_of, frames_sought, sought_some, SeekIsNear}
use Rattle.spc_player.specs.Player.{SpcPlayer, marks_played, KeepsPlayer}
use Rattle.spc_player.specs.Inputs.{IsOpened, IsMuted}
use Rattle.player_c.specs.declared.handle.SpcwavePlayer.{SpcwavePlayer}

-- the player of a handle, which has one from its opening to its end
abbrev pub playing : SpcwavePlayer → Option SpcPlayer
playing handle = handle.owned.playing

-- the player of a handle that stands
abbrev pub playing_in : Option SpcwavePlayer → Option SpcPlayer
playing_in None = None
playing_in (Some handle) = playing handle

abbrev pub IsOpen : SpcwavePlayer → Type 0
IsOpen handle = IsSome (playing handle)

-- a call makes one player of another
abbrev pub Becomes : (SpcPlayer → SpcPlayer → Type 0) → (old new : Option SpcPlayer) → Type 0
Becomes P None new = ⊥
Becomes P (Some old) None = ⊥
Becomes P (Some old) (Some new) = P old new

-- It has come to a position, has these marks and has made so many frames; its tune, its file, its pool's capacity, its spacing and its end are the same.
abbrev pub Moved : (at : SpcPlayer → ℕ) → (marks : SpcPlayer → List Checkpoint) → (made : SpcPlayer → ℕ) → (old new : Option SpcPlayer) → Type 0
Moved at marks made = Becomes (λ old new. KeepsPlayer old new × (position_of new ≡ at old) × (marks_of new ≡ marks old) × (made_of new ≡ made old))

-- it has played so many frames
abbrev pub PlayedOn : (count : ℕ) → (old new : Option SpcPlayer) → Type 0
PlayedOn count = Moved (λ p. position_of p + count) (λ p. marks_played p count) (λ p. count_after (made_of p) count)

-- it has gone to a frame, or towards it by so many frames at most
abbrev pub Sought : (frame : ℕ) → (old new : Option SpcPlayer) → Type 0
Sought frame = Moved (λ _. frame) marks_of (λ p. count_after (made_of p) (frames_sought p frame))

abbrev pub SoughtSome : (frame most : ℕ) → (old new : Option SpcPlayer) → Type 0
SoughtSome frame most = Moved (λ p. sought_some p frame most) marks_of (λ p. count_after (made_of p) (min most (frames_sought p frame)))

-- the seek to a frame made no more frames than lie between any mark up to it and the frame
abbrev pub SoughtNear : (frame : ℕ) → (old new : Option SpcPlayer) → Type 0
SoughtNear frame = Becomes (λ old new. SeekIsNear old new frame)

-- so many frames fewer are left to be made for a seek
abbrev pub LeftToSeek : (frame most : ℕ) → (old new : Option SpcPlayer) → Type 0
LeftToSeek frame most = Becomes (λ old new. frames_sought new frame ≡ frames_sought old frame - most)

-- its muted voices are these, and its render ends here
abbrev pub Muted : (voices : ℕ) → (old new : Option SpcPlayer) → Type 0
Muted voices = Becomes (IsMuted voices)

abbrev pub EndsAt : Length → (old new : Option SpcPlayer) → Type 0
EndsAt end = Becomes (λ old new. new ≡ record old { end = end })

-- a player stands at the opening of a tune
abbrev pub IsOpening : (bytes table : List ℕ) → PlayerOptions → Option SpcPlayer → Type 0
IsOpening bytes table options None = ⊥
IsOpening bytes table options (Some player) = IsOpened bytes table options player

-- the same, of a handle that stands
abbrev pub IsOpeningIn : (bytes table : List ℕ) → PlayerOptions → Option SpcwavePlayer → Type 0
IsOpeningIn bytes table options handle = IsOpening bytes table options (playing_in handle)
