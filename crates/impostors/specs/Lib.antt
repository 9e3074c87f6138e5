pub mod Boxes
pub mod Impostors
