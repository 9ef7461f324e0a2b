pub mod Searching
pub mod Sets
pub mod Slots
pub mod Merging
pub mod EndsBySlot
pub mod Progress
