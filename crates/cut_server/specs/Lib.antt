-- What a reader of the promises needs:
-- what contracts see of a server of cuts
pub mod Server
-- the same over any whole machines that are saved, loaded and run
pub mod ServerState
pub mod Machines
-- the table of checkpoints, over a pool of pages
pub mod Table
-- Words of the contracts within the crate: how pages are placed and given back, what a server keeps, and what of its render.
pub mod Placing
pub mod IsServed
pub mod Renders
