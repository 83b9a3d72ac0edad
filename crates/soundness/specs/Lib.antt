-- What the calls are held to, each statement a predicate of any such calls: what they accept, what a refusal says, in which order commands
-- stand, what they write, demand 3, the bound in the relaxation, what a farm reads of a job, and what it is promised of feeding windows, of
-- the day's length, of the cheapest plan, of the rows that fix how many feedings there are and of what was before there were any, of costs
-- known within ranges and of what was before these, of forty-eight choices and of what was before these, of the factor of the weights and
-- of what was before there was one, of the costliest register, of the tallies of suppliers, and of what a supplier may read. Of no call:
-- what the multiplier commands add and subtract.
pub mod Calls
pub mod Parts
pub mod BeforeRanges
pub mod Written
pub mod Acceptance
pub mod Refusals
pub mod Order
pub mod Writers
pub mod Demand3
pub mod Relaxation
pub mod Multipliers
pub mod Jobs
pub mod Windows
pub mod DayLengths
pub mod Search
pub mod Rows
pub mod BeforeRows
pub mod BeforeRowMultipliers
pub mod PriceRanges
pub mod MoreChoices
pub mod BeforeMoreChoices
pub mod HeavierPenalties
pub mod CostliestRegister
pub mod BeforeFactors
pub mod Suppliers
pub mod SupplierListing
