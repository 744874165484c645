-- Memory: bytes and words of a memory of 65,536 bytes.
-- Pages: lists and sets of page numbers, what a list has, and whether two sets have a page in common.
-- PageBits: how a set of pages stands in two numbers of 128 bits. No contract cites it; the type of sets is built on it.
pub mod Memory
pub mod Pages
pub mod PageBits
