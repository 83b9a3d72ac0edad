-- The lines of a job, the two listing calls' answers, table and buffers, and what equal lines stand for.
pub mod Listing
pub mod Answer
pub mod Same
-- not the paper's: the lines of choices by who reads them, and the array in which lines are put
pub mod Readers
pub mod Held
