pub mod Admitted
pub mod Masks
pub mod Record
pub mod Lengths
pub mod Accepted
pub mod Shifts
pub mod Stores
pub mod Answers
