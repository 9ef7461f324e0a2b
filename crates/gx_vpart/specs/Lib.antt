pub mod JoinCalls
pub mod Joining
pub mod LentRows
pub mod Operators
pub mod Slots
