-- What the bench program prints of an answer, and which looks are refused.
pub mod Said
pub mod Looked
