pub mod NameOrder
pub mod Numbers
pub mod BarredNumbers
