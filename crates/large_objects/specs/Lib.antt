pub mod Larges
