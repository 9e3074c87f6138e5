pub mod Runs
pub mod Shut
