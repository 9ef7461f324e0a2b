pub mod Ends
pub mod Ids
pub mod Merging
pub mod Searching
pub mod Sets
pub mod Slots
