-- Decimal numbers and lines of text; a field of a line and a number's sign.
pub mod Text
pub mod Fields
pub mod Writing
