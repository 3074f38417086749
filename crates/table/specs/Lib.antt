pub mod Placed
pub mod Fields
pub mod Reading
pub mod Groups
pub mod Moves
pub mod Stands
pub mod Structure
