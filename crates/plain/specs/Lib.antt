-- The certificate of our own: its commands, its bytes, and what the call answers.
pub mod Plain
pub mod Encoding
pub mod Answer
-- not the paper's: the same numbers and commands, as the code reads them from a table
pub mod InTable
