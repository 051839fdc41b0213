mod Rows
pub mod InLists
pub mod Meets
pub mod Plain
pub mod Cycles
pub mod OnePlace
mod Room
pub mod Firsts
pub mod Rising
pub mod Found
pub mod Settled
pub mod Kept
pub mod Walked
pub mod OfObjects
pub mod Counted
pub mod Sampling
pub mod Making
pub mod PlainJournals
pub mod Alike
