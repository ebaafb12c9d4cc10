-- What is left of the proof of `still::next_shown`.
use Rattle.std.proofs.Common.{◌-◌, ◌≤◌, inl, inr, arith}
use Rattle.std.proofs.lemmas.Bool.{cases_lt}
use Rattle.psy_dates.proofs.ShownFrom.{seen_first}
use Rattle.psy_dates.proofs.still.next_shown.Goals as goal

pub returns : goal.returns
returns c k m at = elim (cases_lt k c.seen.result) [
  | inl early ↦ (let l : m.visible ≤ c.args.date - 1 = seen_first (c.args.date - 1) c.args.queue.now.messages c.visible_at-2.ensures.order m k (omega (arith, early, c.seen.ensures)) at in inl (omega (arith, l, c.if-date-eq0.false)))
  | inr late ↦ inr (c.visible_at-2.ensures.least k m late at)
]
