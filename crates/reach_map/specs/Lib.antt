-- Reach: the pages that the samples to come can read and write.
pub mod Reach
-- Added: a set of pages with the pages of a list added.
pub mod Added
-- BlocksToEnd: how many blocks stand one after another up to the first that ends.
pub mod BlocksToEnd
