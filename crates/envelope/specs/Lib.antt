-- Envelope: one step of a voice's envelope.
-- Steps: an envelope over several samples.
-- UntilChange: envelopes that steps leave as they are.
pub mod Envelope
pub mod Steps
pub mod UntilChange
