pub mod Cutting
pub mod Reading
pub mod Roots
pub mod Holding
pub mod Jobs
pub mod Laws
pub mod Examples
pub mod Collisions
