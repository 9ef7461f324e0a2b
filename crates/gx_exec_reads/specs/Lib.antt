pub mod ActionRowLaws
pub mod Actions
pub mod DemandedBlockLaws
pub mod HeldAnswers
pub mod HeldRows
pub mod OneDemandLaws
pub mod ScriptNameLaws
pub mod UnmadeRowLaws
