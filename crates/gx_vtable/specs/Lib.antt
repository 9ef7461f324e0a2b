pub mod Kernels
pub mod NewRows
