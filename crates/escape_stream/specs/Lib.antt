pub use Rattle.escape_simd.specs.Modes
pub use Rattle.escape_simd.specs.Output
pub mod Fault
pub mod Words
pub mod Run
