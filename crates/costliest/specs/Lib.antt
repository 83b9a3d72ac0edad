-- The costliest register: which numbers of terms and of choices in each are refused, its bytes, and what the call answers.
pub mod Limits
pub mod Costliest
pub mod Answer
-- not the paper's: the two numbers as the code keeps them
pub mod Work
