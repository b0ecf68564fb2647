pub mod BlockLengths
pub mod Faults
pub mod Layout
pub mod Reading
