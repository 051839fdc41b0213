pub mod Joining
pub mod Covering
pub mod Answering
pub mod Ranging
pub mod OwnSeats
pub mod Housed
