pub mod Lookup
pub mod Refusals
pub mod Calls
pub mod Search
pub mod Fronts
pub mod Straight
