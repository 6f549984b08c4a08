pub mod Order
pub mod Choice
