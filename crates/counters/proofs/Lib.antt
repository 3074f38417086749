pub mod Hits
pub mod Showings
pub mod Structures
