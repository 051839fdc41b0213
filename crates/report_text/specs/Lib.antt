pub mod Unique
pub mod Items
pub mod Words
pub mod Refusal
pub mod Gathered
pub mod Read
pub mod Laws
