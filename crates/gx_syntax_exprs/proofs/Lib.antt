pub mod Complete
pub mod Expressions
pub mod Levels
pub mod Local
pub mod Sound
pub mod StepLemmas
