-- What the laws of order sheets say.
pub mod Grammar
pub mod Meets
pub mod Passes
pub mod CheckLaw
