pub mod Reading
pub mod Named
pub mod Ordered
pub mod Asked
pub mod Publishing
pub mod Telling
