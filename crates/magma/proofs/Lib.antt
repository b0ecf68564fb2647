-- The lemmas of the wide table.
pub mod Tested
pub mod Wide
