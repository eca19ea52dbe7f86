pub mod Outcomes
pub mod Replays
pub mod Verdicts
pub mod Placed
