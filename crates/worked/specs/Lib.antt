pub mod Records
pub mod Orders
pub mod Worked
pub mod Runs
