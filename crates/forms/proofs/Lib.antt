-- The laws of forms, of their tables, and of what the code stores.
pub mod Form
pub mod Homogenized
pub mod Table
pub mod Store
pub mod Times
pub mod Added
