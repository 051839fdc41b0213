pub mod Driving
pub mod Starting
pub mod Tables
