-- What is left of the proof of `tally::sum_up`.
use Rattle.psy_assert.proofs.tally.sum_up.Goals as goal

pub returns : goal.returns
returns c = c.settle.ensures c.args.by_value c.args.notes.now c.add_all.ensures
