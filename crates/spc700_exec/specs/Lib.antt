-- What a reader of the promises needs, from the bus up to a step:
-- what contracts see of a bus, and its laws
pub mod Bus
-- the bus over plain memory
pub mod MemBus
-- the accesses of an instruction in order, each chosen by the bytes read before it
pub mod Script
-- the addressing forms and the stack
pub mod Operands
-- what each kind of instruction does: one table of all kinds
pub mod Operations
-- the instructions, one line for each operation
pub mod Lines
-- the instruction of an opcode, and the step of the processor
pub mod Instruction
-- the same as questions: what comes next, by what was read and written so far
pub mod Next
-- Checks on them, which the laws state:
-- which accesses each operation makes, in order
pub mod Accesses
-- which forms each operation has
pub mod Forms
-- at most how many accesses and cycles a script has
pub mod Length
-- For the layers above: buses that emit items, on which nothing else depends
pub mod Emitting
-- Words of the contracts of the parts of a step; the promise on a step doesn't speak of them:
pub mod Calculations
pub mod Pieces
