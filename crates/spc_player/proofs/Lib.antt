-- MutedTunes: a tune over other muted voices. Sending: that a player may go to another thread.
mod MutedTunes
pub mod Sending
