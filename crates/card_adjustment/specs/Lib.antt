pub mod Aj
