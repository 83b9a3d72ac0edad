-- The cheapest plan of a register, by a walk over partial plans: the sum at a partial plan, the walk, what the call answers.
pub mod Sum
pub mod Walk
pub mod Answer
-- not the paper's: what the code is lent, what it keeps from choice to choice, and where it stops
pub mod Lent
