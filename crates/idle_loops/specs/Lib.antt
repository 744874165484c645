-- ReadOnly: what steps do that only read, over any bus.
pub mod ReadOnly
