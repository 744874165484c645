-- What a reader of the promises needs of a chip:
-- one sample and several of any chip, what they leave and give, and the records of a mask
pub mod Samples
-- the limits that several clauses need
pub mod Limits
-- what contracts see of a chip
pub mod ChipMeaning
-- and of what it saves
pub mod ChipSaving
-- what a chip keeps to, by the reach taken before its samples
pub mod ReachLaws
-- what each chip keeps
pub mod ChipLaws
-- and what it keeps that is saved
pub mod SavingLaws
