-- Part 2 of the job file: the scheme (a quadratization), its variables and their sets, fillings, and the function g; and how a scheme
-- was read before there could be more than 32 choices, and before there was a factor.
pub mod Scheme
pub mod Variables
pub mod Format
pub mod Valid
pub mod Encoding
pub mod Answer
pub mod Filling
pub mod Function
pub mod BeforeWide
pub mod BeforeFactors
-- not the paper's: the array of sets that the code keeps
pub mod Sets
