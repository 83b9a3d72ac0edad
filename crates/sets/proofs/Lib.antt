pub mod Sets
pub mod Subsets
