-- What is left of the proof of `log::tried`.
use Rattle.std.proofs.Common.{ap, Err}
use Rattle.psy_view.specs.Views.{kept, unkept, wrong}
use Rattle.psy_view.proofs.log.tried.Goals as goal

pub returns-in-Ok-None : goal.returns-in-Ok-None
returns-in-Ok-None c name bytes is =
    rw c.new.ensures.items (kept _ is (rw (c.as_bytes.ensures.value, c.in-Ok-None.field-0-is) at c.in-Ok-None.ensures.tried))

pub returns-in-Ok-Some : goal.returns-in-Ok-Some
returns-in-Ok-Some c name bytes is = unkept _ _ is (rw (c.as_bytes.ensures.value, c.in-Ok-Some.field-0-is) at c.in-Ok-Some.ensures.tried)

pub returns-in_ok-wrong_line-in-Err-Line : goal.returns-in_ok-wrong_line-in-Err-Line
returns-in_ok-wrong_line-in-Err-Line c name bytes is =
    rw (c.in_ok-wrong_line-in-Err-Line.ensures, c.as_bytes-in-Err-Line.ensures.value) (wrong _ _ _ is (c.in-Err-Line.ensures.wrong _ _ (ap Err c.in-Err-Line.field-0-is)))
