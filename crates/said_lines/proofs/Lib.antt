pub mod LineLemmas
pub mod Utterances
pub mod LinesSaid
