-- Quadratic forms, their tables, and the table that a call is lent.
pub mod Form
pub mod Table
-- not the paper's: what the code stores on the way to a form's table
pub mod Store
