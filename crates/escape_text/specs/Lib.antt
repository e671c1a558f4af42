pub use Rattle.escape_simd.specs.Output
pub mod Writers
pub mod Sinks
pub mod InTurn
pub mod Lists
pub mod Page
pub mod Record
