-- The rules; the tables of B and R; how large the numbers become; numbers subtracted from a table, and squares; the forms as the
-- code adds them; R command by command; that the scheme's factor makes no difference.
pub mod Forms
pub mod Rules
pub mod Table
pub mod Semidefinite
pub mod Peaks
pub mod Bounds
pub mod RowBounds
pub mod Subtracted
pub mod Squares
pub mod Adds
pub mod RowAdded
pub mod ByCommand
pub mod Midway
pub mod Filled
pub mod Same
pub mod OtherFactor
