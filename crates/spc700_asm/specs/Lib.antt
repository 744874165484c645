-- how an operand of each form is written: the text before and after its number
pub mod Patterns
-- an instruction as its line shows it, and its bytes at an address
pub mod Instructions
-- the line of an instruction, and the listing of bytes
pub mod Listing
-- blanks, names and numbers in a source
pub mod Characters
-- an operand as it is written in a source
pub mod Operands
-- what a line of a source says
pub mod Statements
-- the names that lines define
pub mod Labels
-- the four faults that are looked for first
pub mod Faults
-- the bytes of a source, or its first fault
pub mod Assembly
-- words of the contracts of the parts of reading
pub mod Seen
-- why the line of a number is not assembled
pub mod Refusals
-- words of the contracts of the parts of assembling
pub mod Names
-- what listing and assembling are to each other
pub mod Laws
