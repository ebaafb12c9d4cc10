-- The lemmas of this crate, by subject.
mod AskedLemmas
mod ExportLemmas
mod FilmingLemmas
mod LogLemmas
mod PairLemmas
mod PictureLemmas
mod PlanLemmas
mod ReplyLemmas
mod SelectLemmas
mod TimelineLemmas
mod TopLemmas
