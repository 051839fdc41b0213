mod HeapGiven
mod HeapWays
pub mod RunForms
pub mod RunParsed
pub mod WholeNumber
pub mod PiecesAsked
pub mod ClassLines
pub mod SummaryWhole
pub mod Pairs
mod WatchersAsked
