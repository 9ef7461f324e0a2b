pub mod AnswerRows
pub mod EdgeOrderLaws
pub mod LentRows
pub mod PartAnswerLaws
pub mod StableOrderLaws
pub mod VertexOrder
pub mod VertexOrderLaws
