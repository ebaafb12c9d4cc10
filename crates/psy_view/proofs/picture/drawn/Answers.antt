-- What is left of the proof of `picture::drawn`.
use Rattle.std.proofs.Common.{ap, Err}
use Rattle.psy_view.specs.Views.{no_run}
use Rattle.psy_view.proofs.picture.drawn.Goals as goal

pub returns-in_ok-broken_text-in-Err-Line : goal.returns-in_ok-broken_text-in-Err-Line
returns-in_ok-broken_text-in-Err-Line c =
    let line = c.in-Err-Line.line in
    rw (c.in_ok-broken_text-in-Err-Line.ensures, c.as_bytes.ensures.value)
    (no_run line (c.in-Err-Line.ensures.line line (ap Err c.in-Err-Line.field-0-is)))
