pub mod Admitting
pub mod Accepting
pub mod Answering
pub mod Surveying
pub mod Watching
