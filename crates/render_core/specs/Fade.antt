-- The fade at the end of a render (own): over its last frames each side goes down to nothing, in a straight line.
use Rattle.std.specs.Prelude.{ℕ, ◌+◌, ◌-◌, ℤ, pos, ◌*ℤ◌, int_div, List, [], ◌∷◌, length, nat_lt, if◌then◌else◌}
use Rattle.num_fix.specs.declared.Frame.{Frame}

-- a side of the frame after which so many frames still come, where so many frames fade; the quotient is rounded towards zero
abbrev pub faded_side : (side : ℤ) → (after fade : ℕ) → ℤ
faded_side side after fade = int_div (side *ℤ pos after) (pos fade)

-- entry `at` of so many frames, of which the last `fade` fade
abbrev pub faded_frame : Frame → (at frames fade : ℕ) → Frame
faded_frame frame at frames fade =
    if nat_lt at (frames - fade) then frame
    else record { left = faded_side frame.left (frames - 1 - at) fade; right = faded_side frame.right (frames - 1 - at) fade }

-- the entries from `at` on of so many frames
abbrev pub faded_from : (at frames fade : ℕ) → List Frame → List Frame
faded_from at frames fade [] = []
faded_from at frames fade (frame ∷ rest) = faded_frame frame at frames fade ∷ faded_from (at + 1) frames fade rest

-- a whole list of frames, of which the last `fade` fade
abbrev pub faded_frames : (frames : List Frame) → (fade : ℕ) → List Frame
faded_frames frames fade = faded_from 0 (length frames) fade frames
