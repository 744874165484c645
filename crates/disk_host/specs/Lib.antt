-- the created outputs of a host of real files
pub mod Created
-- what a host of real files is at a moment, which files are its input and its outputs, what it asked, and which bytes its files are known to hold
pub mod Held
-- what contracts see of the report and of the complaint of a disk
pub mod Texts
