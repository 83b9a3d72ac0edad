-- The job file: numbers in a run of bytes, the checks of a command, how a part is read command by command or refused, which
-- commands say a record and where they stand, parts in turn, and what a call that writes bytes answers.
pub mod Number
pub mod Checks
pub mod Part
pub mod Rows
pub mod Encoding
pub mod Grammar
pub mod Walk
pub mod Refused
pub mod Outcome
pub mod Results
pub mod Writer
