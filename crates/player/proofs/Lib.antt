-- Fading: the fade, and parts of it. Heard: that what was heard is near. Keeping: what calls keep. Nearness: where seeks run from. OwnMarking: marks that a player takes by
-- itself. Putting: frames in a caller's array. Texts: texts in one.
mod Fading
mod Heard
mod Keeping
mod Nearness
mod OwnMarking
mod Putting
mod Texts
