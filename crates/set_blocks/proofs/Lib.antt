pub mod NamesRead
pub mod Tails
