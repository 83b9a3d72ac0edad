-- How many products the builder forms of a register.
pub mod Counting
