-- Lemmas for the functions of this crate.
mod EntryFields
mod Held
mod Next
mod Whole
mod Written
mod OfContents
mod Filled
mod Lines
