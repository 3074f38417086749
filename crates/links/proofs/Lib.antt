pub mod Alls
pub mod Places
pub mod Tables
pub mod Chains
pub mod Listing
