-- The counts, and the multipliers' forms, in the paper's words; the conditions and the reader's tests; the commands one by one, and
-- reading them; that the scheme's factor makes no difference.
pub mod Counts
pub mod MultiplierForms
pub mod Conditions
pub mod Commands
pub mod Operands
pub mod Filling
pub mod Within
pub mod OtherFactor
pub mod Ranges
pub mod Asks
pub mod Sizes
pub mod Rows
pub mod Passes
pub mod Checked
pub mod Readback
pub mod Entries
pub mod Laws
pub mod Encoded
pub mod Accept
pub mod Going
pub mod Lowest
pub mod Prefix
pub mod RowForm
