pub mod MovedItems
