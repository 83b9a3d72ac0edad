-- Part 4 of the job file, whether a plan fits rows, the coefficients that a plan chooses, and its cost; and how a plan was read before
-- there were rows, and before `41`.
pub mod Plan
pub mod Fits
pub mod Chosen
pub mod Valid
pub mod Format
pub mod Encoding
pub mod Answer
pub mod BeforeRows
pub mod BeforeWide
