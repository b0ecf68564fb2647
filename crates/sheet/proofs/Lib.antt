pub mod Slots
pub mod Searches
pub mod Steps
pub mod Walk
