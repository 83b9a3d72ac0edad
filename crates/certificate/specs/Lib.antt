-- Part 3 of the job file as far as its commands go: multipliers and squares, how they are read, their conditions and their bytes.
pub mod Limits
pub mod Certificate
pub mod RowForm
pub mod Rules
pub mod Format
pub mod Within
pub mod Encoding
-- not the paper's: what the code keeps of a certificate
pub mod Answer
