pub mod AgendaTurns
pub mod FiledBlocks
pub mod FoundBlocks
pub mod Lists
pub mod Members
pub mod MissingBlocks
pub mod TurnSteps
