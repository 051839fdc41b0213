pub mod Turns
pub mod Released
pub mod Outs
