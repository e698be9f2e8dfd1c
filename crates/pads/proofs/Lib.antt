pub mod Answers
pub mod Fronts
