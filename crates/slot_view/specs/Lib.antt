pub mod CodeChoices
pub mod CodeScan
pub mod CodeSections
pub mod CodeView
pub mod CodeViewed
