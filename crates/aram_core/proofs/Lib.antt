-- Bytes: the byte at an address, once a byte is put at another.
-- MarkedPages: what a bit set, or two words with a bit in common, mean for the sets of pages.
-- SetsOfPages: what two words that are joined bit by bit, and words of ones, mean for them.
-- PagesFrom: the pages from one on, by their numbers.
pub mod Bytes
pub mod MarkedPages
pub mod SetsOfPages
pub mod PagesFrom
