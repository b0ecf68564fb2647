pub mod Slots
pub mod Kept
pub mod Progress
pub mod Checking
