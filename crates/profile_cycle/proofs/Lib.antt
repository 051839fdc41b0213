pub mod Named
mod Numbered
mod Listing
mod Counted
mod Parts
mod Totals
mod Seats
mod Allowed
mod Going
mod Handing
mod Calling
