mod Names
pub mod CardRow
mod CardRows
pub mod CardParts
pub mod LawOfReading
pub mod Readings
