-- The proofs of the families' laws. Nobody has to believe them: the checker does. They stand here, and not among the
-- other proofs, since a law of an impl may cite only its own crate's specs.
pub mod Residues
pub mod Classes
pub mod Places
pub mod Products
pub mod Splits
pub mod Solutions
pub mod Signs
pub mod Trials
pub mod Primes
pub mod Dots
pub mod Stars
pub mod Wraps
