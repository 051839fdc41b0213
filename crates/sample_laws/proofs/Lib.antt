pub mod Slots
pub mod Sampled
pub mod Numbered
pub mod Counting
pub mod Parted
pub mod Known
