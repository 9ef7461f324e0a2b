pub mod ExactForms
pub mod ExactParts
pub mod LimitLemmas
pub mod Loops
pub mod Refusals
