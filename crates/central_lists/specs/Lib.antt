pub mod Looks
pub mod Works
pub mod Lists
pub mod Tries
