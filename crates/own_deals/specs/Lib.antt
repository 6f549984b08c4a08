pub mod OwnDeals
