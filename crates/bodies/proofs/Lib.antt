pub mod Bodies
pub mod Openings
