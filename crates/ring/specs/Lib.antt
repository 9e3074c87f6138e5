pub mod Ring
pub mod Parts
pub mod Several
