pub mod Refusing
pub mod Stepping
pub mod Truths
pub mod ListCalls
pub mod FinderCalls
pub mod Histories
pub mod Structures
pub mod Watching
