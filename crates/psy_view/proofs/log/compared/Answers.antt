-- What is left of the proof of `log::compared`.
use Rattle.std.proofs.Common.{ap, Err}
use Rattle.psy_view.specs.Views.{same, first_breaks, second_breaks}
use Rattle.psy_view.proofs.log.compared.Goals as goal

pub returns-in-Ok-None : goal.returns-in-Ok-None
returns-in-Ok-None c =
    let first = c.in-Ok-None.ensures.logs.0 in
    rw c.new.ensures.items (same first.0 first.1 (c.in-Ok-None.ensures.same c.in-Ok-None.field-0-is))

pub returns-in_ok-broken_text-in-Err-First : goal.returns-in_ok-broken_text-in-Err-First
returns-in_ok-broken_text-in-Err-First c =
    rw (c.in_ok-broken_text-in-Err-First.ensures, c.as_bytes.ensures.value)
    (first_breaks _ (c.in-Err-First.ensures.first _ (ap Err c.in-Err-First.field-0-is)))

pub returns-in_ok-broken_text-in-Err-Second : goal.returns-in_ok-broken_text-in-Err-Second
returns-in_ok-broken_text-in-Err-Second c =
    let is = c.in-Err-Second.ensures.second _ (ap Err c.in-Err-Second.field-0-is) in
    rw (c.in_ok-broken_text-in-Err-Second.ensures, c.as_bytes-in-Err-Second.ensures.value) (second_breaks is.0.0 _ is.0.1 is.1)
