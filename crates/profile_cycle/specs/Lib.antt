pub mod Sampling
pub mod History
pub mod Naming
pub mod Kept
pub mod Words
pub mod Rule
pub mod Listing
