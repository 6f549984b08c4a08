pub mod Runs
pub mod SlotRuns
pub mod Records
