-- What is left of the proof of `due::date_behind`.
use Rattle.std.proofs.Common.{◌≡◌, ◌+◌, ◌<◌, Some, get_or, length, sym, ap, ◌∙◌, arith}
use Rattle.std.specs.Prelude.{slice_get}
use Rattle.std.proofs.lemmas.Option.{same_Some, slice_get-get_or, slice_get_within}
use Rattle.psy_clock.specs.declared.clock.Clock.{Clock}
use Rattle.psy_clock.specs.Dates.{from_date}
use Rattle.psy_tree.specs.Parts.{no_clock}
use Rattle.psy_dates.proofs.due.date_behind.Goals as goal

pub later-requires-clause-next : goal.later-requires-clause-next
later-requires-clause-next c =
    let clocks = c.args.plan.now.unit.clocks in
    let clock = c.args.clock in
    let found : slice_get c.args.calendar.now clock ≡ Some c.in-Some.next = sym c.in-Some.ensures in
    let within : clock < length clocks = omega (arith, slice_get_within c.args.calendar.now clock c.in-Some.next found, c.requires.calendar.count) in
    let its = c.requires.calendar.nexts clock (get_or clocks clock no_clock) (slice_get-get_or clocks clock no_clock within) in
    same_Some _ _ (sym found ∙ its) ∙ ap (λ (k : Clock). from_date k (c.args.start + 1) 0) (sym c.clock_of-known.ensures.value)
