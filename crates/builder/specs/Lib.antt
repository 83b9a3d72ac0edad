-- The builder: 000 Algorithm 2 as the paper condenses it, and what its call answers; and what it made before there could be more than
-- 32 choices.
pub mod Builder
pub mod Answer
pub mod BeforeWide
-- not the paper's: what the code keeps, and the bytes of commands as it writes them
pub mod Ready
pub mod Work
pub mod Encoding
