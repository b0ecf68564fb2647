-- The proofs of the laws of contents.
pub mod Digits
pub mod Sound
pub mod Ordered
pub mod Constructed
pub mod Entries
pub mod Bodies
pub mod Law
