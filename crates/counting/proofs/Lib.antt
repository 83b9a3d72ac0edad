pub mod Reducing
pub mod AtMost
pub mod Unions
pub mod Laminar
pub mod Pairs
pub mod Passes
pub mod Exactly
pub mod Counting
