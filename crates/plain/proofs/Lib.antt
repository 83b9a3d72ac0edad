-- The coefficients that it is made of; the worked row; the table of our own B; its rows; its commands and numbers; that it is valid; its
-- bytes and the call's answer; that the scheme's factor makes no difference.
pub mod Coefficients
pub mod Same
pub mod Changes
pub mod Worked
pub mod Entries
pub mod Rows
pub mod Commands
pub mod Sizes
pub mod Valid
pub mod InTable
pub mod BySign
pub mod Encoded
pub mod Answers
pub mod ReadBack
pub mod Call
pub mod OtherFactor
