-- OneMoreDraw: lists that are joined, and the state, one step on. Signed: the file begins with the signature.
pub mod OneMoreDraw
pub mod Signed
