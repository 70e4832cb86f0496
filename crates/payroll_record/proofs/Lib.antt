pub mod Strays
mod OneByte
pub mod Fields
pub mod NoFault
pub mod RightRecords
pub mod Readings
