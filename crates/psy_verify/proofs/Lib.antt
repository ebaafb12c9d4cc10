-- The lemmas of this crate, by subject.
mod Able
mod Counts
mod Fitting
mod Levels
mod Likeness
mod Lists
mod Roads
mod Ruled
mod Runs
mod Sights
mod Tables
mod Wells
mod Worked
mod WorkedCalls
mod images
