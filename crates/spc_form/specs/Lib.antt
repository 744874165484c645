-- Accepted: which bytes are an SPC file, and what is kept of them.
-- Layout: the places of an SPC file.
-- Tags: the text of the tags, and the length that they give.
-- Inspection: what bytes say before they are read.
-- Opening: what the machine begins with.
pub mod Accepted
pub mod Layout
pub mod Inspection
pub mod Tags
pub mod Opening
