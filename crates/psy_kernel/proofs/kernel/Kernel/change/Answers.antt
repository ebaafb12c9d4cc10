-- What is left of the proof of `kernel::Kernel::change`.
use Rattle.std.proofs.Common.{◌≤◌, sym, subst, inl, inr}
use Rattle.psy_kernel.specs.Progress.{Progress}
use Rattle.psy_kernel.proofs.kernel.Kernel.change.Goals as goal

pub asks_anew-asks-requires-clause-early : goal.asks_anew-asks-requires-clause-early
asks_anew-asks-requires-clause-early c = subst (λ (q : Progress). q.dates ≤ q.plan.until) (sym c.round-over.ensures.state) c.round-over.ensures.early

pub returns-then-over-clause-changes : goal.returns-then-over-clause-changes
returns-then-over-clause-changes c = λ yes. inr (inl (c.round-over.ensures.over c.if-over.true))
