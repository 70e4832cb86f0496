pub mod NoFurther
pub mod Ends
pub mod InChunks
