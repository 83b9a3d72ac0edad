-- The bytes on which the supplier's listing of an accepted job must not depend, and what is the same of two jobs that agree in all
-- others.
pub mod Hidden
pub mod Alike
