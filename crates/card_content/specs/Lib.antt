pub mod Content
pub mod Field
pub mod EqualOutside
