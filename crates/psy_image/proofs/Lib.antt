-- The lemmas of this crate, by subject.
mod Both
mod Bounds
mod Decoded
mod Encoded
mod Exact
mod FieldsRead
mod Loops
mod NamesSpelled
mod Parts
mod Printed
mod PrintedCode
mod PrintedAgents
mod Prints
mod Written
