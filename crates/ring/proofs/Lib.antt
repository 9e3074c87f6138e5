mod Making
mod Free
mod Storing
mod Moving
pub mod Cutting
pub mod Laws
pub mod Several
