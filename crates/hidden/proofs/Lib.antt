-- The laws of hidden bytes.
pub mod Commands
pub mod Marks
pub mod Blank
pub mod Rest
pub mod Jobs
