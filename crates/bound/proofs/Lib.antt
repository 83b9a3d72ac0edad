-- The condition and the test that R carries T; acceptance and refusals; the relaxation, the bound and the second-order part; the
-- worked rows; the rows of the table, the check and the call; that the scheme's factor makes no difference.
pub mod Conditions
pub mod Accept
pub mod Lowest
pub mod Prefix
pub mod Relaxation
pub mod Bound
pub mod SecondOrder
pub mod Worked
pub mod Example
pub mod FirstShort
pub mod Same
pub mod Opening
pub mod Checking
pub mod Answers
pub mod Demand
pub mod OtherFactor
