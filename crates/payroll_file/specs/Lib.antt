pub mod PayrollFile
pub mod Answer
