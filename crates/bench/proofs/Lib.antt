pub mod Filling
pub mod Outs
