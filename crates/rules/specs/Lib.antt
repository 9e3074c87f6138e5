pub mod Call
pub mod Flush
pub mod Fill
pub mod Refusals
pub mod Outcome
pub mod Steps
pub mod Plans
pub mod Known
