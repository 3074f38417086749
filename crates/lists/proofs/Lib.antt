pub mod Fronts
pub mod Places
pub mod Sorting
pub mod Walking
mod Listing
mod Writing
mod Cuts
mod Falls
mod Thresholds
pub mod Ends
