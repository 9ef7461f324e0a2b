pub mod Evaluates
pub mod Evaluation
pub mod Numbers
pub mod ResultBounds
pub mod ResultKinds
pub mod Shapes
pub mod Soundness
pub mod Typing
