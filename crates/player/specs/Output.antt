-- What callers get in arrays of their own: frames, and text.
use Rattle.std.specs.Prelude.{ℕ, min, List, [], ◌∷◌, ◌++◌, length, take, drop}
use Rattle.num_fix.specs.declared.Frame.{Frame}
use Rattle.player.specs.declared.output.StereoFrame.{StereoFrame}

-- the same two sides
abbrev pub stereo : Frame → StereoFrame
stereo frame = record { left = frame.left; right = frame.right }

-- and back
abbrev pub as_frame : StereoFrame → Frame
as_frame frame = record { left = frame.left; right = frame.right }

-- as much of a text as an array has room for, a zero byte, and the rest of the array; an array of no bytes gets none
abbrev pub with_text : (text out : List ℕ) → List ℕ
with_text text [] = []
with_text text (first ∷ rest) = let count = min (length text) (length rest) in take count text ++ 0 ∷ drop count rest
