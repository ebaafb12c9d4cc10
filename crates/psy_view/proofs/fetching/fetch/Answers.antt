-- What is left of the proof of `fetching::fetch`.
use Rattle.std.proofs.Common.{ap, Err}
use Rattle.psy_view.specs.Fetching.{failed, long}
use Rattle.psy_view.proofs.fetching.fetch.Goals as goal

pub returns-in_ok-unread_line-in-Err-Failed-clause-fetched : goal.returns-in_ok-unread_line-in-Err-Failed-clause-fetched
returns-in_ok-unread_line-in-Err-Failed-clause-fetched g c =
    rw (c.in_ok-unread_line-in-Err-Failed.ensures, c.as_bytes.ensures.value) (failed (c.in-Err-Failed.ensures.failed (ap Err c.in-Err-Failed.field-0-is)))

pub returns-in_ok-long_line-in-Err-TooLong-clause-fetched : goal.returns-in_ok-long_line-in-Err-TooLong-clause-fetched
returns-in_ok-long_line-in-Err-TooLong-clause-fetched g c =
    rw (c.in_ok-long_line-in-Err-TooLong.ensures, c.as_bytes-in-Err-TooLong.ensures.value) (long (c.in-Err-TooLong.ensures.longer (ap Err c.in-Err-TooLong.field-0-is)))
