pub mod Row
pub mod Questions
pub mod Promises
pub mod Examples
