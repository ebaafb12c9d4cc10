-- What is left of the proof of `front::value`.
use Rattle.std.proofs.Common.{refl}
use Rattle.psy_text.proofs.Values.{NoValue-minus, NoValue-below, NoValue-above}
use Rattle.psy_text.proofs.front.value.Goals as goal

pub returns-in_err-number-in-Some-clause-none : goal.returns-in_err-number-in-Some-clause-none
returns-in_err-number-in-Some-clause-none c none = NoValue-minus c.args.text.now c.in-Some.digits.now c.in-Some.ensures (c.in_err-number-in-Some.ensures.none refl)

pub returns-in_err-below_zero-in-Some-clause-none : goal.returns-in_err-below_zero-in-Some-clause-none
returns-in_err-below_zero-in-Some-clause-none c none =
    let at = c.in_ok-number-in-Some in
    NoValue-below c.args.text.now c.in-Some.digits.now at.number at.rest.now c.in-Some.ensures at.ensures.some (c.in_err-below_zero-in-Some.ensures.none refl)

pub returns-in_err-not_below_zero-in-None-clause-none : goal.returns-in_err-not_below_zero-in-None-clause-none
returns-in_err-not_below_zero-in-None-clause-none c none =
    let at = c.in_ok-number-in-None in
    NoValue-above c.args.text.now at.number at.rest.now c.in-None.ensures at.ensures.some (c.in_err-not_below_zero-in-None.ensures.none refl)
