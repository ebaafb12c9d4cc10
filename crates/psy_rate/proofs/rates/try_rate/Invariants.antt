-- What each loop of `rates::try_rate` keeps.
use Rattle.std.proofs.Common.{◌+◌, ◌<◌, length}
use Rattle.psy_rate.specs.Rows.{IsRow}
use Rattle.psy_rate.specs.Trials.{IsPassed}
use Rattle.psy_rate.proofs.rates.try_rate.Given as goal

abbrev pub invariant-loop : goal.invariant-loop
invariant-loop l = IsRow l.edges 0 l.rate l.counter l.row × (length l.row < l.counter → IsPassed l.edges l.rate (l.rate + 1))
