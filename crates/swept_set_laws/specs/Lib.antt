pub mod Entered
pub mod NamesGoOn
pub mod SweptTails
