-- B and R of a certificate, and the relaxed problem.
pub mod Residual
pub mod Relaxed
-- not the paper's: how large the numbers become, and what the code keeps on the way to R
pub mod Limits
pub mod Built
