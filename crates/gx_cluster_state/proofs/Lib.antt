pub mod OneRun
pub mod PossibleRuns
pub mod ReadyBlocks
pub mod TurnBounds
