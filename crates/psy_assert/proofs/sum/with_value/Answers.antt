-- What is left of the proof of `sum::with_value`.
use Rattle.std.proofs.Common.{◌∙◌, rules}
use Rattle.psy_assert.proofs.Extents.{one_value_more}
use Rattle.psy_assert.proofs.sum.with_value.Goals as goal

pub returns-in-Some : goal.returns-in-Some
returns-in-Some c wanted ends =
    one_value_more wanted ends c.in-Some.extent _ _ c.args.value (search rules) (search rules) ∙ search rules
