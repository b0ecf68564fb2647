pub mod SealingState
pub mod OpeningState
