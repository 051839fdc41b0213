pub mod Firsts
pub mod Maps
mod There
mod Told
mod Begins
pub mod Cells
pub mod Changing
mod Frees
mod Members
