-- The lemmas of this crate, by subject.
mod FirstFound
mod LinesSaid
mod OneClaim
