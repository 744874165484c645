-- a listing goes on after its first instruction
pub mod Unrolled
-- so few digits write a small number
pub mod Powers
-- the place of the first one that passes a test
pub mod Positions
-- the least opcode whose row passes a test
pub mod LeastOpcode
-- the size of items, one after another
pub mod Sizes
-- the first fault of a line, by the tests in their order
pub mod FirstFault
-- the names that lines define, with one line more
pub mod LabelsAppend
-- what holds of the first going over a source, before each line
pub mod Surveyed
-- what holds of the second going over a source, before each line
pub mod Emitted
-- both goings over a source together are its assembly
pub mod Assembled
-- the instruction at the front of the bytes of an instruction
pub mod Decoding
-- what was assembled is listed as its instructions
pub mod Relisted
-- the operands that the text of an instruction has
pub mod Expected
-- the characters of a front that pass a test
pub mod Fronts
-- the numbers that are written are read as themselves
pub mod NumberTexts
-- the text of an operand is read as that operand
pub mod OperandTexts
-- the text of a line is cut into its mnemonic and its operands
pub mod LineTexts
-- the text of an instruction has no other characters
pub mod TextCharacters
-- the text of an instruction is read as its opcode and its operands
pub mod TextRead
-- the bytes of an instruction that was found
pub mod Encoding
-- lines that define no name and have no fault
pub mod GoodLines
-- the line of bytes that are no whole instruction
pub mod ByteLines
-- the assembly of a listing
pub mod Reassembled
-- a listing has at most sixteen bytes for each byte listed
pub mod ShortListings
