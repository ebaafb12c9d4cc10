-- What each loop of `tally::cuts_of` keeps.
use Rattle.std.specs.Prelude.{⊤}
use Rattle.psy_assert.proofs.tally.cuts_of.Given as goal

-- Nothing: they are put in order behind it
abbrev pub invariant-loop-assertion : goal.invariant-loop-assertion
invariant-loop-assertion l = ⊤
