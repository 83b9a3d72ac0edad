-- The tally that `feedcheck` carries, the lines that `cheapest` prints, what the programs write that make a part of a job, and where
-- they print it.
pub mod Feedcheck
pub mod Cheapest
pub mod Parts
pub mod Printing
pub mod Programs
