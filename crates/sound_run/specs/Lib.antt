pub mod Run
pub mod Notes
pub mod Spans
