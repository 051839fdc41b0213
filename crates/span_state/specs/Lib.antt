pub mod Bits
pub mod Counts
pub mod OneBits
pub mod Groups
pub mod MarkSet
pub mod Spans
pub mod Table
