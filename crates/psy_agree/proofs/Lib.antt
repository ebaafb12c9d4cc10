-- The lemmas of this crate, by subject.
mod Given
mod GraphFacts
mod GraphNotes
mod GraphsLead
mod RunFacts
mod RunNotes
mod RunsLead
