-- What an image has whose bytes spell it, part by part.
pub mod Crew
pub mod Declared
pub mod Names
pub mod Placed
pub mod Said
pub mod Sound
