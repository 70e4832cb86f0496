pub mod Copies
mod Puts
