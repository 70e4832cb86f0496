pub mod Cv
