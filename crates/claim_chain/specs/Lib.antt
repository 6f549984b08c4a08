pub mod Seats
pub mod SeatMap
pub mod Latest
pub mod OneToOne
pub mod Links
