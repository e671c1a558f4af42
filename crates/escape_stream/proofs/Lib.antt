pub mod Transfer
pub mod Written
