pub mod Given
pub mod Framing
pub mod Room
pub mod OneLine
pub mod AllLines
pub mod Outcomes
pub mod Callers
