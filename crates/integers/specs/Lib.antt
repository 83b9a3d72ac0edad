pub mod Integer
pub mod Lists
pub mod Sum
pub mod Quadratic
pub mod CeilDiv
