pub mod Agendas
pub mod ShapeLaws
pub mod StateLaws
pub mod States
pub mod Sweeps
