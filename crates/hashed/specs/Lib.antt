pub mod Chains
pub mod Slots
pub mod Steps
pub mod Members
pub mod Hashed
