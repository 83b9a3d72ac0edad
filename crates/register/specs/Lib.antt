-- Part 1 of the job file, in the order of the paper: limits, the record, its commands and their order, its conditions and bytes, what
-- is out of range in them, where a choice lies outside the windows of its tank, where a term's command stands, and how it is read and
-- was read.
pub mod Limits
pub mod Register
pub mod Format
pub mod Order
pub mod Valid
pub mod Encoding
pub mod Ranges
pub mod Outside
pub mod Position
pub mod Answer
pub mod Opening
pub mod BeforeWide
pub mod BeforeRanges
pub mod BeforeRows
pub mod BeforeLengths
pub mod BeforeWindows
