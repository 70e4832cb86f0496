pub mod NoFurther
pub mod InChunks
pub mod ProgressRows
