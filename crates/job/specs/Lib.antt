-- The whole job: its outcome, its answer and tally, the table, and what it must be to be accepted.
pub mod Outcome
pub mod Tally
pub mod Answer
pub mod Counting
pub mod BeforeSuppliers
pub mod Valid
-- not the paper's: the rest of a job as the code's functions read it
pub mod Rest
