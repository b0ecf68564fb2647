pub mod Entries
pub mod Models
