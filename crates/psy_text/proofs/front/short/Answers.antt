-- What is left of the proof of `front::short`.
use Rattle.std.proofs.Common.{arith}
use Rattle.psy_text.proofs.Numbers.{one_number}
use Rattle.psy_text.proofs.front.short.Goals as goal

pub returns-in_err-short_of-clause-none : goal.returns-in_err-short_of-clause-none
returns-in_err-short_of-clause-none c none n rest small cuts =
    let far = c.in_err-short_of.ensures in
    let once = one_number c.args.text.now n c.in_ok-number.number rest c.in_ok-number.rest.now (omega arith) far.1 cuts c.in_ok-number.ensures.some in
    omega (arith, once.0, far.0)
