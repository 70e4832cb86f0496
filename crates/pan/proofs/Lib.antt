pub mod Tests
pub mod Agreement
pub mod Formed
pub mod Zeros
pub mod Stars
pub mod HiddenPlaces
pub mod Masking
pub mod Twins
