pub mod CodeFound
pub mod CodeProposing
