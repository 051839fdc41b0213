mod Parts
mod Writing
mod Pasts
mod Reading
pub mod Refused
mod Asking
mod SlotSizes
mod Sampling
mod Counted
mod Naming
mod Ordering
mod OneHeap
