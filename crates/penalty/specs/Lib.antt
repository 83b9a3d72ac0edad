-- The penalty form.
pub mod Weights
pub mod Penalty
pub mod Carried
pub mod Least
pub mod TrueProducts
pub mod Limits
pub mod Answer
pub mod Demand
-- not the paper's: how often the code adds g
pub mod Multiple
