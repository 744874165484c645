-- what a command answers, and its line of complaint
pub mod Answer
-- how a command makes its plan and carries it out
pub mod Conduct
-- outputs that a delivery makes
pub mod Delivery
-- what calls do one after another
pub mod InOrder
-- what a plan of a list of outputs makes
pub mod Listed
-- the inputs that a command names, and the calls that read them
pub mod NamedInputs
-- the calls that make outputs and write a report
pub mod OutputCalls
-- calls of which none failed but the last
pub mod PlainCalls
-- what a plan makes
pub mod Plan
-- the calls that a command makes, by how it ends
pub mod RunCalls
-- two outputs that are written at once, in pieces
pub mod Stream
