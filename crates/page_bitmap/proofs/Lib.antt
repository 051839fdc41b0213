pub mod Bits
pub mod WordRunsLemmas
pub mod Maps
pub mod ScansLemmas
pub mod Blocks
