pub mod Cell
pub mod Checked
pub mod Flow
pub mod Limits
pub mod Order
pub mod Refusal
