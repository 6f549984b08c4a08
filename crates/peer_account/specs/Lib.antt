pub mod OwnDeals
pub mod Settling
pub mod Taking
pub mod View
pub mod Probing
pub mod Discarding
pub mod States
