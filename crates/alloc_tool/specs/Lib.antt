pub mod Top
pub mod Outcome
pub mod Words
pub mod Plain
pub mod Checked
pub mod Demo
pub mod Watch
