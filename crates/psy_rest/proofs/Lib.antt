-- The lemmas of this crate, by subject.
mod EarlierPlans
mod OtherExecutors
mod QuietDates
mod RestTexts
mod SameEnds
