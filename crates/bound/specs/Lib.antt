-- What it means that R carries T, the bound, what a certificate proves of the relaxed problem, how it is accepted or refused, what the
-- check answers, and what is demanded of it.
pub mod Bound
pub mod Relaxation
pub mod Format
pub mod Valid
pub mod Refused
pub mod Opening
pub mod Check
pub mod Demand
-- not the paper's: what the code keeps of the rows
pub mod Dominance
