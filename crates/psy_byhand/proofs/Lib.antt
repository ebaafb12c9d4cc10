-- The lemmas of this crate, by subject.
mod CounterFits
mod CounterPlan
mod CounterRuns
mod Holding
mod LapGraph
mod LapParts
mod LapPaths
mod LapPoints
mod Names
mod RelayBuffers
mod RelayFits
mod RelayPlan
mod RelayRuns
