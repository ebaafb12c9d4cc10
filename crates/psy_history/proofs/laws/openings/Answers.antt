-- What is left of the proof of `laws::openings`.
use Rattle.std.proofs.Common.{◌≡◌, ℕ, zero, suc, ◌≤◌, true, false, Some, refl, sym, ap, ◌∙◌, inl, inr, arith}
use Rattle.psy_lists.proofs.lemmas.Members.{get_or_holds}
use Rattle.psy_clock.specs.Dates.{IsClock}
use Rattle.psy_history.specs.Actions.{clock_of, next_of, variable_of}
use Rattle.psy_history.specs.Rings.{ring_of}
use Rattle.psy_history.proofs.ClockDates.{AreCounted}
use Rattle.psy_history.proofs.NextStarts.{next_late}
use Rattle.psy_history.proofs.OpenedBuffers.{none_early, queue_begins, ring_begins}
use Rattle.psy_history.proofs.OpenedRuns.{opened_run}
use Rattle.psy_history.proofs.RunStreams.{has_streams}
use Rattle.psy_history.proofs.SentMessages.{AreClockLaws}
use Rattle.psy_history.proofs.Timings.{every_tick}
use Rattle.psy_history.proofs.laws.openings.Goals as goal

counted : (c : goal.After-regular) → AreCounted
counted c = record { upto = c.dates.ensures.count; below = c.dates.ensures.below }

of_clocks : (c : goal.After-regular) → AreClockLaws
of_clocks c = record { late = c.distances.ensures.late; from_late = c.distances.ensures.from_late }

pub returns-clause-plain : goal.returns-clause-plain
returns-clause-plain c unit code nexts stalls inputs compiled are = (c.compiled.ensures.run unit code nexts stalls inputs compiled are).opened

pub returns-clause-run : goal.returns-clause-run
returns-clause-run c s opening ways code run sound = opened_run s opening ways code run sound

pub returns-clause-silent : goal.returns-clause-silent
returns-clause-silent c s ways code run date agent silent =
    none_early s date agent (λ n is. let no : true ≡ false = sym silent ∙ (run.opened.known agent n is).1 in absurd cc)

pub returns-clause-waits : goal.returns-clause-waits
returns-clause-waits c s ways code run date agent behind less loud none =
    let (n, starts) = run.opened.begins agent less loud in
    let late = next_late s (c.regular.ensures.lawful s ways code run) date agent n (ap (next_of s agent) none ∙ starts) in
    elim (run.opened.places agent n starts) [
      | inl begun ↦ absurd (omega (arith, behind, late, begun.last))
      | inr waits ↦ starts ∙ ap Some waits.first
    ]

pub returns-clause-none : goal.returns-clause-none
returns-clause-none c s ways code run date agent early =
    none_early s date agent (λ n is. elim (run.opened.places agent n is) [ inl begun ↦ omega (arith, early, begun.last) | inr waits ↦ omega (arith, early, waits.ahead) ])

pub returns-clause-rings : goal.returns-clause-rings
returns-clause-rings c s ways code run variable size some less ring = by_dates s.opening.dates refl some
  where
    by_dates : (dates : ℕ) → s.opening.dates ≡ dates → 1 ≤ dates → ring_of s dates variable size ≡ s.opening.published variable
    by_dates zero behind some = absurd (omega (arith, some))
    by_dates (suc last) behind some =
        let is : IsClock (clock_of s (variable_of s variable).clock) = get_or_holds IsClock s.unit.clocks (variable_of s variable).clock _ every_tick run.bare.clocks in
        ring_begins s ways (counted c) last variable behind is (run.opened.rings last variable behind less) size ring

pub returns-clause-queues : goal.returns-clause-queues
returns-clause-queues c s ways code run stream less = queue_begins s ways code run (has_streams s ways code run (c.regular.ensures.lawful s ways code run)) (of_clocks c) stream less
