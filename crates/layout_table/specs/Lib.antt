pub mod CodeEntries
