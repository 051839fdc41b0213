pub mod OfPage
mod Rising
