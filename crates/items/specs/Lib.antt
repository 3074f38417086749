pub mod Sameness
pub mod Labels
pub mod Gtins
pub mod Faults
pub mod Articles
pub mod ArticleLaws
