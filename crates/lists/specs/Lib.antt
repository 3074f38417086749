pub mod Row
pub mod Walks
pub mod Marks
