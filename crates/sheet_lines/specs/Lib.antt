pub mod Models
pub mod Next
