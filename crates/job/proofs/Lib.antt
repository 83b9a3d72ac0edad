-- What the job's call answers; which jobs are accepted; how long a job can be; that the scheme's factor makes no difference.
pub mod Positions
pub mod Turn
pub mod Changed
pub mod Moved
pub mod EachRead
pub mod Answers
pub mod FirstTwo
pub mod OtherFactor
pub mod Sound
pub mod Prefix
pub mod Ranges
pub mod Suppliers
pub mod Call
pub mod Accept
pub mod BeforeSuppliers
pub mod Counting
