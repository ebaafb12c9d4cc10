-- The definitions of this crate, by subject.
pub mod Acting
pub mod Cycles
pub mod Engines
pub mod Freezing
pub mod Kernels
pub mod Looking
pub mod Progress
pub mod Resuming
pub mod Runs
pub mod Seeing
pub mod Slices
pub mod Standing
pub mod Starting
pub mod Stretches
pub mod Telling
pub mod Texts
pub mod Units
