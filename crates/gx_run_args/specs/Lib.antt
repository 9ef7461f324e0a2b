pub mod GivenOptions
pub mod RunCommands
