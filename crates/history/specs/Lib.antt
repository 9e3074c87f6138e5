pub mod World
pub mod Tale
pub mod Fair
