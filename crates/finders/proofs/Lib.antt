pub mod Bindings
mod Searches
mod Slots
mod Entering
pub mod Refusing
