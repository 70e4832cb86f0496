pub mod Kind
pub mod Reading
pub mod CardPart
