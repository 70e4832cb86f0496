pub mod CardField
pub mod HiddenPlaces
pub mod Masked
pub mod AgreeOutside
pub mod Twins
