pub mod Read
pub mod Keyed
pub mod Counted
pub mod Told
