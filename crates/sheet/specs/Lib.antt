pub mod Sheet
pub mod Places
