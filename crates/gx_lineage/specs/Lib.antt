pub mod BlockLaws
pub mod Lineage
pub mod Nodes
