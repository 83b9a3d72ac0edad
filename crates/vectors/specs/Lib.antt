-- A line of a vector file: its fields, and what a field says.
pub mod Line
pub mod Said
