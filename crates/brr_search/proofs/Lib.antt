-- Choice: the choice between the plain encoding and another one, and what is refused.
-- Headers: the headers of the candidates that stay are those that were tried.
-- Allowed: the headers of the blocks that are found.
-- Rows: rows of links, the last one taken away, and one more.
-- Reports: the errors of blocks, one sample and one block more.
-- Through: a block more of a search.
pub mod Choice
pub mod Reports
pub mod Headers
pub mod Rows
pub mod Through
pub mod Allowed
