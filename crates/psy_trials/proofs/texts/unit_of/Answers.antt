-- What is left of the proof of `texts::unit_of`.
use Rattle.std.proofs.Common.{arith}
use Rattle.psy_trials.proofs.texts.unit_of.Goals as goal

pub returns : goal.returns
returns g c =
    let spells = rw c.as_slice.ensures at c.in_ok-raw.ensures.tree in
    c.of_text.ensures.unit c.as_bytes-bytes.result.now c.in_ok-tokens.tokens c.in_ok-raw.raw c.in_ok-unit.unit (omega arith) c.in_ok-tokens.ensures.tokens spells c.in_ok-unit.ensures.stands
