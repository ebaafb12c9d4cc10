-- What is left of the proof of `served::tell_unread`.
use Rattle.psy_serve.proofs.Growing.{last_of}
use Rattle.psy_serve.proofs.served.tell_unread.Goals as goal

pub returns-in-Ok-clause-told : goal.returns-in-Ok-clause-told
returns-in-Ok-clause-told g c = (
  c.as_slice.result.now,
  c.in-Ok.ensures.written,
  rw c.as_slice.ensures.value (last_of _ _ _ c.last.ensures c.meaning_behind-more.ensures),
)

pub returns-clause-front : goal.returns-clause-front
returns-clause-front g c = (
  c.as_slice.result.now,
  c.in-Err.fault.taken,
  c.in-Err.ensures.front,
  rw c.as_slice.ensures.value (last_of _ _ _ c.last.ensures c.meaning_behind-more.ensures),
)
