mod Columns
mod Lists
mod Paths
mod Moves
mod Clearing
mod Walking
mod Standing
mod Entries
