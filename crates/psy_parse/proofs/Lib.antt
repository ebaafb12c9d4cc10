-- The lemmas of this crate, by subject.
mod Steps
mod Numbers
mod Again
mod AgainStmts
mod AgainItems
mod Heads
mod ExprSteps
mod StmtSteps
mod ItemSteps
mod FaultAt
mod Trees
mod Depths
mod Front
