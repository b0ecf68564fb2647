-- What the laws of contents say.
pub mod Belonging
pub mod BodyLines
