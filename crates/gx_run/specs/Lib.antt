pub mod ActionLogs
pub mod ActionTexts
pub mod LoadedFiles
pub mod Meaning
pub mod RunLogs
pub mod RunResults
pub mod ScriptFile
pub mod Steps
