pub mod Room
pub mod Tables
pub mod There
pub mod KeptLives
pub mod KeptSpare
pub mod Views
pub mod Loops
pub mod Bare
