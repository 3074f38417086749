pub mod Tables
pub mod Chains
pub mod Kinds
pub mod Lists
