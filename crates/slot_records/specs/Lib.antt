pub mod CodeTaken
pub mod Records
