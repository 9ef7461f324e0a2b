pub mod ExitCodes
pub mod Fields
pub mod RowTexts
pub mod StatusLines
pub mod Wording
pub mod WriterStates
