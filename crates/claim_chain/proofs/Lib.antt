mod Seats
mod OneToOne
mod LatestLink
pub mod Joined
