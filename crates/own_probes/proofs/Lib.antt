pub mod Briefs
pub mod Reactions
pub mod Outcomes
