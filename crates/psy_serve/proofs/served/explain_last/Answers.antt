-- What is left of the proof of `served::explain_last`.
use Rattle.std.proofs.Common.{List, ℕ, sym, subst}
use Rattle.psy_serve.proofs.Growing.{last_of}
use Rattle.psy_serve.specs.Behind.{IsExplained}
use Rattle.psy_serve.proofs.served.explain_last.Goals as goal

pub returns-in-Ok-clause-explained : goal.returns-in-Ok-clause-explained
returns-in-Ok-clause-explained g c = (
  c.as_slice.result.now,
  c.in-Ok.ensures.written,
  rw c.as_slice.ensures.value (last_of _ _ _ c.last.ensures c.explanation_behind-more.ensures.explained),
)

pub returns-clause-front : goal.returns-clause-front
returns-clause-front g c = (
  c.as_slice.result.now,
  c.in-Err.fault.taken,
  c.in-Err.ensures.front,
  rw c.as_slice.ensures.value (last_of _ _ _ c.last.ensures c.explanation_behind-more.ensures.explained),
)
