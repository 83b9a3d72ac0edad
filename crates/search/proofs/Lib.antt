-- The walk: where it goes on and how many it visits, the sum at a partial plan, the least cost; what the code keeps; the answers.
pub mod Walks
pub mod Sums
pub mod Bound
pub mod Least
pub mod Under
pub mod Members
pub mod Cheapest
pub mod Deciding
pub mod Listing
pub mod Going
pub mod Answers
pub mod Searched
pub mod Worked
