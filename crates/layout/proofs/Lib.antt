pub mod Tests
pub mod Sizes
pub mod Views
pub mod Numbers
pub mod Puts
pub mod Loops
pub mod Turns
pub mod Racks
