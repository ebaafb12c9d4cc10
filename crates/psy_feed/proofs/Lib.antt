-- The lemmas of this crate, by subject.
mod AnyBacks
mod Apart
mod FedBy
pub mod lemmas
