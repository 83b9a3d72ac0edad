-- The laws of decimal numbers and lines that the proofs share and that callers cite.
pub mod Digits
pub mod Lines
pub mod Unique
pub mod Standing
pub mod Writing
