pub mod Runs
pub mod Words
pub mod WordRuns
pub mod Scans
pub mod Pages
pub mod Counts
pub mod CountLaws
