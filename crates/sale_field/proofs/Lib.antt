pub mod Below
mod Ends
pub mod Offers
