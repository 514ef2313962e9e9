pub mod Accord
pub mod Checked
pub mod Flow
pub mod Keys
pub mod Order
pub mod RefusalNumbers
pub mod Turn
