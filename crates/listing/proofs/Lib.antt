-- The laws of the lines that the proofs share and that callers cite.
pub mod Lengths
pub mod Outcome
pub mod Answers
pub mod Lettered
pub mod Lines
pub mod SupplierLines
pub mod Joined
pub mod Bits
mod Room
