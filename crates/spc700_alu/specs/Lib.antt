-- the status byte and its flags
pub mod Flags
-- ADC, SBC, CMP, the logic, the shifts, INC and DEC
pub mod Bytes
-- ADDW, SUBW, CMPW, MUL and DIV
pub mod WordArithmetic
-- DAA and DAS
pub mod Decimal
-- the operations on one bit
pub mod Bits
-- whether sums and differences stay within their ranges, and numbers of two decimal digits
pub mod Ranges
