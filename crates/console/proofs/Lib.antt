-- The laws of what the programs read and print.
pub mod Front
pub mod Lengths
pub mod Prefix
pub mod Made
pub mod Filled
pub mod Printed
