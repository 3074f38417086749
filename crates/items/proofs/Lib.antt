pub mod Put
pub mod Alike
pub mod Turned
mod Digits
mod Zeros
mod Articles
