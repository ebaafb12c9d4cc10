-- What is left of the proof of `numbers::numbers_at`.
use Rattle.std.proofs.Common.{◌*◌, arith}
use Rattle.psy_flow.specs.Bits.{HasNumber}
use Rattle.psy_flow.proofs.FoundRows.{number_low}
use Rattle.psy_flow.proofs.NumbersBelow.{all_below}
use Rattle.psy_flow.proofs.numbers.numbers_at.Goals as goal

pub returns : goal.returns
returns c =
    let rows = c.args.rows.now in
    all_below (HasNumber rows c.args.place) (c.rows.row * 64) c.rows.numbers c.rows.invariant
    (λ number has. omega (arith, number_low rows c.args.place number has, c.rows-test.false, c.rows.auto.row-end))
