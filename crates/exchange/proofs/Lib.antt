pub mod Sampling
pub mod Transfers
